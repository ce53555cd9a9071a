-- The table after a whole moment is well formed: its arrays hold the moment's lists, and the places past them are blank.
use Rattle.std.specs.Prelude.{◌≡◌, ◌≢◌, true, List, ◌++◌, ℕ, ◌≤◌, ltb, get_or, set}
use Rattle.std.proofs.Common.{sym, ◌∙◌, arith, get_or-set_same, get_or-set_other, ltb-false}
use Rattle.std.proofs.Math.Path.{ap}
use Rattle.std.proofs.Math.Logic.{⊎_elim}
use Rattle.std.proofs.Math.ListN.{length, length-set}
use Rattle.base.specs.Choice.{by-test}
use Rattle.base.specs.Sums.{same?}
use Rattle.base.specs.Arrays.{padded, padded-take, padded-length}
use Rattle.room.specs.declared.Room.{Room}
use Rattle.room.specs.Record.{no_room}
use Rattle.table.specs.declared.Table.{Table}
use Rattle.table.specs.declared.Wire.{Wire}
use Rattle.table.specs.Tables.{Answer}
use Rattle.table.specs.Limits.{queue_limit, wire_limit}
use Rattle.table.specs.Tables.{no_wire, no_queued, room_at, queue_of, messages_of}
use Rattle.table.specs.Formed.{well_formed}
use Rattle.rules.specs.Work.{Work}
use Rattle.rules.specs.Step.{after, outcome}
use Rattle.facts.specs.Shapes.{Shaped}
use Rattle.facts.specs.Whole.{WellFormed, test_of}
use Rattle.facts.specs.Names.{queue-bound}
use Rattle.kept.specs.Changed.{changed-is}
use Rattle.kept.specs.Moment.{NoOwnRequest, Sound}
use Rattle.kept.specs.Acts.{Whole, now}
use Rattle.kept.specs.Start.{formed-of}

-- well formed, with no REQUEST begun by the room with the token, in arrays as long as their types say
abbrev pub Lawful : Table → Type 0
Lawful t = (well_formed t ≡ true) × NoOwnRequest (room_at t) (messages_of t) × Shaped t

module _ (t : Table) (s : Shaped t) (f : WellFormed t) (kept : List Wire) (w : Work) (a : Whole t.n (room_at t) kept w) where
  sound : Sound t.n (now (room_at t) w) w.queue (kept ++ w.sent)
  sound = a.moment

  -- by the names the queue has a place for each room that is in it
  short : length w.queue ≤ queue_limit
  short =
      omega (arith, f.low, queue-bound t.n (now (room_at t) w) w.queue (kept ++ w.sent) (formed-of t.n (now (room_at t) w) w.queue (kept ++ w.sent) sound))

  -- the rooms of the table after
  here : get_or (set t.rooms w.me w.room) w.me no_room ≡ w.room
  here = get_or-set_same t.rooms w.me w.room no_room (omega (arith, s.rooms, f.low, a.low))

  there : (c : ℕ) → c ≢ w.me → get_or (set t.rooms w.me w.room) c no_room ≡ room_at t c
  there c e = get_or-set_other t.rooms w.me c w.room no_room e

  pub rooms-are : now (room_at t) w ≡ room_at (after t kept w)
  unfolding after
  rooms-are = changed-is (room_at t) w.me w.room (room_at (after t kept w)) here there

  pub queue-is : queue_of (after t kept w) ≡ w.queue
  unfolding after
  queue-is = padded-take queue_limit no_queued w.queue

  pub messages-are : messages_of (after t kept w) ≡ kept ++ w.sent
  unfolding after
  messages-are = padded-take wire_limit no_wire (kept ++ w.sent)

  sound-after : Sound t.n (room_at (after t kept w)) (queue_of (after t kept w)) (messages_of (after t kept w))
  sound-after = rw (queue-is, messages-are, ← rooms-are) sound

  module _ (room : length (kept ++ w.sent) ≤ wire_limit) where
    shaped-after : Shaped (after t kept w)
    unfolding after
    shaped-after =
        record {
          rooms = length-set t.rooms w.me w.room ∙ s.rooms;
          entries = λ c l. ⊎_elim (λ e. long (ap (room_at (after t kept w)) e ∙ here) ∙ a.long) (λ e. long (there c e) ∙ s.entries c l) (same? c w.me);
          queue = padded-length queue_limit no_queued w.queue short;
          wires = padded-length wire_limit no_wire (kept ++ w.sent) room;
        }
      where
        long : {p q : Room} → p ≡ q → length p.entries ≡ length q.entries
        long e = ap (λ (r : Room). length r.entries) e

    facts-after : WellFormed (after t kept w)
    unfolding after
    facts-after =
        record {
          some = f.some;
          low = f.low;
          queued = short;
          count = room;
          formed = formed-of t.n (room_at (after t kept w)) (queue_of (after t kept w)) (messages_of (after t kept w)) sound-after;
          rooms-blank = λ c n l. there c (λ e. omega (arith, a.low)) ∙ f.rooms-blank c n l;
          queue-blank = ap (padded queue_limit no_queued) (sym queue-is);
          wires-blank = ap (padded wire_limit no_wire) (sym messages-are);
        }

    pub after-lawful : Lawful (after t kept w)
    after-lawful =
        (test_of (after t kept w) shaped-after facts-after, λ v m. (sound-after.right v m).unowned, shaped-after)

  -- "11 FULL: the step would leave more than 256 messages" is refused, so an accepted step has room for them
  pub outcome-lawful : (outcome t kept w).«number» ≡ 0 → Lawful (outcome t kept w).table
  unfolding outcome
  outcome-lawful =
      by-test Accepted w.worn _ _ (λ e z. absurd (omega arith)) λ e.
      by-test Accepted (ltb wire_limit (length (kept ++ w.sent))) _ _ (λ l z. absurd (omega arith)) λ l z.
      after-lawful (ltb-false _ _ l)
    where
      Accepted : Answer → Type 0
      Accepted r = r.«number» ≡ 0 → Lawful r.table
