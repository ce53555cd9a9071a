use Rattle.std.proofs.Common.{◌≡◌, arith}
use Rattle.room.specs.Limits.{room_limit}
use Rattle.room.proofs.Laws.{strongest-none, strongest-more, owned-strongest}
use Rattle.room.proofs.Room.owned.Goals as goal

pub loop-e-init : goal.loop-e-init
loop-e-init c = strongest-none _

pub loop-e-preserved : goal.loop-e-preserved
loop-e-preserved c = strongest-more _ _ _ _ c.loop-e.invariant c.larger-best.ensures

pub returns : goal.returns
returns c =
    let e : c.loop-e.e-index ≡ room_limit = omega arith in
    owned-strongest _ _ (rw e at c.loop-e.invariant)
