use Rattle.step.proofs.Ends.{told-right}
use borrow.Author.Rules.{rules}
use Rattle.step.proofs.step.Goals as goal

pub returns : goal.returns
returns c = search (rules, told-right)
