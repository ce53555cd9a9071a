use borrow.Author.Rules.{rules}
use Rattle.run.proofs.Left.{left-none, left-some}
use Rattle.run.proofs.draining.steps_left.Goals as goal

pub returns-then-not-well_formed : goal.returns-then-not-well_formed
returns-then-not-well_formed c = search (rules, left-none)

pub returns : goal.returns
returns c = search (rules, left-some)
