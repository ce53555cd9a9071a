use borrow.Author.Rules.{rules}
use Rattle.std.proofs.Common.{◌∙◌, tests}
use Rattle.std.proofs.lemmas.Iterator.{YieldsList-from_slice}
use Rattle.std.proofs.lemmas.Iterator.Consumers.{YieldsList-from_enumerate}
use Rattle.std.proofs.lemmas.Iterator.Search.{all_from_yields_List}
use Rattle.table.specs.Formed.{entry_fine, entries_fine}
use Rattle.room.specs.Record.{no_entry}
use Rattle.records.proofs.Lists.{all-placed}
use Rattle.records.proofs.entries_fine.Goals as goal

pub returns : goal.returns
unfolding entries_fine
returns c =
    let s = c.args in
    all_from_yields_List (λ p. entry_fine s.n s.c p.0 p.1) _ _ _ c.all.ensures.ran
    (YieldsList-from_enumerate (YieldsList-from_slice s.entries.now (cc)) (cc))
    (λ x b q k. search (rules, tests))
    ∙ all-placed no_entry (entry_fine s.n s.c) s.entries.now 16 (search rules)
