-- A drain of deliveries and hand-backs on any table: what is given back, and how many of them there can be.
use Rattle.std.specs.Prelude.{ℕ, ◌≤◌, ◌≡◌, false, List, Option, Some, None, if◌then◌else◌}
use Rattle.base.specs.Choice.{decided}
use Rattle.table.specs.declared.Table.{Table}
use Rattle.table.specs.Formed.{well_formed}
use Rattle.rules.specs.declared.Event.{Event}
use Rattle.safe.specs.Reached.{Reached}
use Rattle.drain.specs.Drains.{drained_by, is_made, drained, steps, bound, Drains}
use Rattle.run.specs.declared.draining.Drained.{Drained}

-- the table after one event that is a step, and nothing where it is none
unfoldable pub after_of : Table → Event → Option Table
after_of t e = if is_made t e then Some (drained_by t e) else None

-- What a drain gives back: the table after the deliveries and hand-backs among the events, and how many were accepted.
pub record IsDrained (t : Table) (events : List Event) (r : Drained) : Type 0 where
  pub after : r.table ≡ drained t events
  pub accepted : r.steps ≡ steps t events
  -- demand 3, second half, where events led to the table from a fresh one
  pub drains : (n : ℕ) → Reached n t → Drains n t
  pub few : (n : ℕ) → Reached n t → r.steps ≤ bound t

-- two results of one drain are equal
pub drained-decided : (t : Table) (events : List Event) (r s : Drained) → IsDrained t events r → IsDrained t events s → r ≡ s
drained-decided t events r s p q =
    λ i. record { table = decided p.after q.after i; steps = decided p.accepted q.accepted i }

-- the bound of a well formed table; 0 of another
unfoldable pub left_of : Table → ℕ
left_of t = if well_formed t then bound t else 0

-- What is given back as the steps left.
pub record IsLeft (t : Table) (r : ℕ) : Type 0 where
  pub is : r ≡ left_of t
  -- no deliveries and hand-backs are accepted beyond them, where events led to the table from a fresh one
  pub enough : (n : ℕ) → Reached n t → (events : List Event) → steps t events ≤ r
  pub never : well_formed t ≡ false → (events : List Event) → steps t events ≡ 0

-- two results for one table are equal
pub left-decided : (t : Table) (r s : ℕ) → IsLeft t r → IsLeft t s → r ≡ s
left-decided t r s p q = decided p.is q.is
