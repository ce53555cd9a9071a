use borrow.Author.Rules.{rules}
use Rattle.std.proofs.Common.{tests}
use Rattle.formed.proofs.Tallied.{well}
use Rattle.formed.proofs.well_formed.Goals as goal

pub returns : goal.returns
returns c = well c.args.t c.tally_of.result c.tally_of.ensures c.is_some_and.result _ c.is_some_and.ensures (λ y h. search (rules, tests))
