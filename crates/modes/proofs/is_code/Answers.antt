use borrow.Author.Rules.{rules}
use Rattle.modes.proofs.Laws.{code-low, code-high}
use Rattle.modes.proofs.is_code.Goals as goal

pub returns-in-0-to-5 : goal.returns-in-0-to-5
returns-in-0-to-5 c = search (rules, code-low)

pub returns-in-6-to-255 : goal.returns-in-6-to-255
returns-in-6-to-255 c = search (rules, code-high)
