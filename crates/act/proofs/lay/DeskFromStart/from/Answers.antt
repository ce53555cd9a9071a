use Rattle.std.proofs.Common.{rules}
use Rattle.act.proofs.Laid.{laid-out}
use Rattle.act.proofs.lay.DeskFromStart.from.Goals as goal

pub invariant_of-result : goal.invariant_of-result
invariant_of-result c = laid-out _ _ (search rules) (search rules)
