use borrow.Author.Rules.{rules}
use Rattle.std.proofs.Common.{◌≡◌, ◌∙◌, length}
use borrow.Author.Tests.{le-ltb}
use Rattle.records.specs.Parts.{room_place_fine}
use Rattle.records.proofs.Laws.{blank-is}
use Rattle.records.proofs.room_fine.Goals as goal

pub returns-then-c-n : goal.returns-then-c-n
unfolding room_place_fine
returns-then-c-n c =
    let s = c.args in
    let long : length s.r.entries ≡ 16 = search rules in
    simp (le-ltb s.c s.n c.if-c-n.true) (rw c.blank.ensures at c.eq.ensures ∙ blank-is s.r long)
