-- What step_untested answers, whatever it is told: how a plan ends, and the table with the plan written into it.
use Rattle.std.specs.Prelude.{ℕ, ◌+◌, ◌-◌, ◌<◌, ◌≤◌, ◌≡◌, Bool, not, ◌&&◌, List, ◌++◌, length, set, take, drop, ltb, eqb, if◌then◌else◌, Option, Some, None, IfSome}
use Rattle.base.specs.Arrays.{padded}
use Rattle.base.specs.Lists.{remove}
use Rattle.room.specs.Limits.{room_limit}
use Rattle.table.specs.declared.Table.{Table}
use Rattle.table.specs.declared.Wire.{Wire}
use Rattle.table.specs.declared.Queued.{Queued}
use Rattle.table.specs.Limits.{queue_limit, wire_limit}
use Rattle.table.specs.Numbers.{DONE, WORN, FULL}
use Rattle.table.specs.Tables.{Answer}
use Rattle.table.specs.Tables.{no_wire, no_queued, messages_of, answer}
use Rattle.rules.specs.declared.Event.{Event}
use Rattle.plan.specs.Plans.{Planned, placed, plan_as}

-- these messages without the one at the place that was taken, where one was
abbrev pub rest_of : List Wire → Option ℕ → List Wire
rest_of messages None = messages
rest_of messages (Some place) = remove place messages

abbrev pub without : Table → Option ℕ → List Wire
without t taken = rest_of (messages_of t) taken

-- how many of so many they are
abbrev pub left : ℕ → Option ℕ → ℕ
left count None = count
left count (Some place) = count - 1

-- the room that acts has a place, and a message or none is taken from those in use
pub record Takes (t : Table) (me : ℕ) (taken : Option ℕ) : Type 0 where
  pub low : IfSome taken (λ place. place < t.count)
  pub count : t.count ≤ wire_limit
  pub acts : me < room_limit

-- a plan that is made takes out a message that there is, and there are no more than the wires hold
pub record Sized (count : ℕ) (p : Planned) : Type 0 where
  pub low : p.«number» ≡ DONE → IfSome p.taken (λ place. place < count)
  pub high : p.«number» ≡ DONE → count ≤ wire_limit

-- what a plan takes out and sends fits the table
pub record Fits (t : Table) (p : Planned) : Type 0 where
  pub takes : Takes t p.me p.taken
  pub room : left t.count p.taken + length p.done.sent ≤ wire_limit

-- the places that were or are in use: what is left of the messages and what was sent, then blanks
abbrev pub wires_in_use : Table → Option ℕ → List Wire → List Wire
wires_in_use t taken sent = padded t.count no_wire (without t taken ++ sent)

-- the wires then: the places behind those stay as they were
unfoldable pub wires_after : Table → Option ℕ → List Wire → List Wire
wires_after t taken sent = wires_in_use t taken sent ++ drop (length (wires_in_use t taken sent)) t.wires

-- the queue's places: the first of the queue, as many as there are places, then blanks
unfoldable pub places_of : List Queued → List Queued
places_of queue = padded queue_limit no_queued (take queue_limit queue)

-- a plan written into the table
unfoldable pub written_of : Table → Planned → Table
written_of t p =
    record {
      n = t.n;
      rooms = set t.rooms p.me p.done.room;
      queue = places_of p.done.queue;
      queued = length p.done.queue;
      wires = wires_after t p.taken p.done.sent;
      count = left t.count p.taken + length p.done.sent;
    }

-- the number that is given back for a plan, on a table with so many messages
unfoldable pub ending_of : ℕ → Planned → ℕ
ending_of count p =
    if not (eqb p.«number» DONE) then p.«number»
    else (if p.done.worn then WORN
    else (if ltb (wire_limit - left count p.taken) (length p.done.sent) then FULL
    else DONE))

-- the answer that a plan on t ends in
unfoldable pub ends_in : Table → Planned → Answer
ends_in t p =
    if eqb (ending_of t.count p) DONE then answer DONE (written_of t p) else answer (ending_of t.count p) t

-- The step where it is told whether the table is well formed. Told rightly, of a table as the code has it, it is step_of. Told not, or with
-- n or count past the arrays, it is TABLE; where a table is wrongly told to be well formed, its arrays are written as the plan says.
unfoldable pub step_as : Bool → Table → Event → Answer
step_as formed t e = ends_in t (plan_as (formed && placed t) t e)
