use borrow.Author.Rules.{rules}
use Rattle.modes.proofs.Laws.{stronger-larger}
use Rattle.modes.proofs.stronger.Goals as goal

pub returns : goal.returns
returns c = search (rules, stronger-larger)
