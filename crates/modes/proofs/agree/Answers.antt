use mathlib.Core.Path.{sym}
use borrow.Author.Rules.{rules}
use Rattle.modes.proofs.Laws.{past-agrees, agrees-past, agrees-table}
use Rattle.modes.proofs.agree.Goals as goal

pub returns-in-6-to-255 : goal.returns-in-6-to-255
returns-in-6-to-255 c = sym (search (rules, past-agrees))

pub returns-in-6-to-255-b : goal.returns-in-6-to-255-b
returns-in-6-to-255-b c = sym (search (rules, agrees-past))

pub returns : goal.returns
returns c = search (rules, agrees-table)
