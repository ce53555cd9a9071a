-- What owning a table tells of its value.
use mathlib.Core.Path.{◌≡◌}
use mathlib.Core.List.{List, [], ◌∷◌}
use Prim.Native.Nat.{ℕ, zero, suc, ◌<◌}
use native.Mathlib.Nat.{not-suc-le-zero, le_of_suc-le-suc}
use native.Mathlib.Omega.{arith}
use lib.ListN.{length, get_or}
use mir.Val.{Val}
use base.Fml.{Fml}
use denote.Laws.{Is}
use denote.Shadow.{shadow}
use denote.Array.{each}
use Rattle.room.specs.declared.Room.{Room}
use Rattle.room.specs.contracts.Room as rooms
use Rattle.room.specs.Limits.{room_limit}
use Rattle.room.specs.Record.{no_room}
use Rattle.table.specs.declared.Table.{Table}
use Rattle.table.specs.contracts.Table as tables
use Rattle.table.proofs.Known.{rooms-long, queue_long, wires-long}
use Rattle.facts.specs.Shapes.{Shaped}

-- what owning an array's elements tells of each
each-known : {D : Type 0} (f : D → List Val → Fml) (P : D → Type 0) (z : D) → ((v : D) (us : List Val) → shadow (f v us) → P v)
    → (xs : List D) (us : List Val) → shadow (each D f xs us) → (i : ℕ) → i < length xs → P (get_or xs i z)
each-known f P z k [] us s i h = absurd (not-suc-le-zero h)
each-known f P z k (x ∷ xs) [] s i h = absurd s
each-known f P z k (x ∷ xs) (u ∷ us) s zero h = k x (u ∷ []) s.0
each-known f P z k (x ∷ xs) (u ∷ us) s (suc i) h = each-known f P z k xs us s.1 i (le_of_suc-le-suc h)

-- a table that the code has is of the right shape
pub shaped : (t : Table) {vs : List Val} → Is tables.the_row t vs → Shaped t
shaped t g =
    let long = rooms-long t g in
    record {
      rooms = long;
      queue = queue_long t g;
      wires = wires-long t g;
      entries = λ c h. each-known rooms.the_row.own_val (λ (r : Room). length r.entries ≡ room_limit) no_room
          (λ v us s. s.1.1.1.1.1.1.1.1.1.1.0.1.0.1) t.rooms _ g.1.1.1.0.1.1 c (omega arith);
    }
