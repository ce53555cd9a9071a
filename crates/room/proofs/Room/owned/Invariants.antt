use Rattle.std.proofs.Common.{◌≡◌}
use Rattle.room.specs.Owned.{strongest}
use Rattle.room.proofs.Room.owned.Given as goal

abbrev pub invariant-loop-e : goal.invariant-loop-e
invariant-loop-e l = l.best ≡ strongest l.fn.self l.e-index
