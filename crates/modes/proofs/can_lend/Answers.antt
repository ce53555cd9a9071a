use mathlib.Core.Path.{sym}
use borrow.Author.Rules.{rules}
use Rattle.modes.proofs.Laws.{lends_none, lends-past, lends-stronger, lends-other}
use Rattle.modes.proofs.can_lend.Goals as goal

pub returns-in-0 : goal.returns-in-0
returns-in-0 c = sym (search (rules, lends_none))

pub returns-in-6-to-255 : goal.returns-in-6-to-255
returns-in-6-to-255 c = sym (search (rules, lends-past))

pub returns-then-stronger : goal.returns-then-stronger
returns-then-stronger c = sym (search (rules, lends-stronger))

pub returns : goal.returns
returns c = search (rules, lends-other)
