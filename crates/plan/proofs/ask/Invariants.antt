use mathlib.Core.Path.{◌≡◌}
use mathlib.Core.Bool.{Bool, true}
use Prim.Native.Nat.{ℕ}
use lib.Dec.{ltb}
use Rattle.base.specs.Below.{all_below}
use Rattle.table.specs.declared.Table.{Table}
use Rattle.table.specs.Tables.{room_at}
use Rattle.rules.specs.Limits.{worn_limit}
use Rattle.plan.proofs.ask.Given as goal

-- the counter of room c is not worn
abbrev pub fresh : Table → ℕ → Bool
fresh t c = ltb (room_at t c).counter worn_limit

abbrev pub invariant-loop-r : goal.invariant-loop-r
invariant-loop-r l = all_below l.r-index (fresh l.fn.t) ≡ true
