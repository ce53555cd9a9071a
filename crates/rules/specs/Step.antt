-- The step: the first refusal that applies, or what the rules make of the table.
use Rattle.std.specs.Prelude.{ℕ, List, [], ◌∷◌, ◌++◌, length, set, ltb, eqb, if◌then◌else◌}
use Rattle.base.specs.Lists.{remove}
use Rattle.base.specs.Arrays.{padded}
use Rattle.std.specs.Prelude.{Option, Some, None}
use Rattle.table.specs.declared.Table.{Table}
use Rattle.table.specs.declared.Wire.{Wire}
use Rattle.table.specs.Tables.{Answer}
use Rattle.table.specs.declared.Found.{Found}
use Rattle.table.specs.Limits.{queue_limit, wire_limit}
use Rattle.table.specs.Numbers.{DONE, EMPTY, WORN, FULL}
use Rattle.table.specs.Tables.{no_wire, no_queued, messages_of, answer}
use Rattle.table.specs.Oldest.{oldest_of}
use Rattle.rules.specs.declared.Event.{Event}
use Rattle.rules.specs.Work.{Work, work_at}
use Rattle.rules.specs.Rules.{ask, upgrade, hand_back, receive}
use Rattle.rules.specs.Events.{is_ask, is_upgrade, is_hand_back}
use Rattle.rules.specs.Refusals.{refusal}

-- the table after what a room did: its record, the queue, the messages that were left, and then those that it sent
unfoldable pub after : Table → List Wire → Work → Table
after t kept w =
    record {
      n = t.n;
      rooms = set t.rooms w.me w.room;
      queue = padded queue_limit no_queued w.queue;
      queued = length w.queue;
      wires = padded wire_limit no_wire (kept ++ w.sent);
      count = length (kept ++ w.sent);
    }

-- "10 WORN: .. another step that needs a link number above 4,294,967,295"; "11 FULL: the step would leave more than 256 messages";
-- "All but 0 return the table as it came."
unfoldable pub outcome : Table → List Wire → Work → Answer
outcome t kept w =
    if w.worn then answer WORN t
    else (if ltb wire_limit (length (kept ++ w.sent)) then answer FULL t
    else answer DONE (after t kept w))

-- "DELIVER(a, b) takes the oldest message from a to b"
unfoldable pub delivered : Table → ℕ → ℕ → Option Found → Answer
delivered t a b None = answer EMPTY t
delivered t a b (Some found) = outcome t (remove found.place (messages_of t)) (receive (work_at t b) a found.message)

unfoldable pub made : Table → Event → Answer
made t e =
    if is_ask e then outcome t (messages_of t) (ask (work_at t e.room) e.mode)
    else (if is_upgrade e then outcome t (messages_of t) (upgrade (work_at t e.room))
    else (if is_hand_back e then outcome t (messages_of t) (hand_back (work_at t e.room))
    else delivered t e.room e.other (oldest_of t e.room e.other)))

unfoldable pub step_of : Table → Event → Answer
step_of t e = if eqb (refusal t e) DONE then made t e else answer (refusal t e) t

-- the table after a list of events, refused ones among them
unfoldable pub runs : Table → List Event → Table
runs t [] = t
runs t (e ∷ es) = runs (step_of t e).table es
