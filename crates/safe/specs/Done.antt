-- What a room has done keeps the invariant.
use Rattle.std.specs.Prelude.{◌≡◌, false, List, ◌++◌, ℕ}
use Rattle.room.specs.declared.Room.{Room}
use Rattle.table.specs.declared.Wire.{Wire}
use Rattle.rules.specs.Work.{Work}
use Rattle.kept.specs.Acts.{Whole, now}
use Rattle.owning.specs.Clauses.{Served}
use Rattle.safe.specs.Invariant.{Invariant}
use Rattle.safe.specs.Turning.{Serving}

-- the rooms, the queue and the messages after it have the invariant, and no link number above the last was needed
pub record Done (n : ℕ) (rooms : ℕ → Room) (kept : List Wire) (w : Work) : Type 0 where
  pub whole : Whole n rooms kept w
  pub invariant : Invariant n (now rooms w) w.queue (kept ++ w.sent)
  pub unworn : w.worn ≡ false

-- all but SERVED, and then SERVED
pub done : (n : ℕ) (rooms : ℕ → Room) (kept : List Wire) (w : Work) → Serving n rooms kept w w.queue → Served n (now rooms w) w.queue
    → Done n rooms kept w
done n rooms kept w a s =
    record {
      whole = a.whole;
      invariant = record { sound = a.whole.moment; clauses = a.clauses; exact = a.exact; light = a.light; served = s };
      unworn = a.unworn;
    }
