use borrow.Author.Rules.{rules}
use Rattle.std.proofs.Common.{◌≡◌, ◌∙◌, refl, ℕ, length, eqb, ltb, tests}
use Rattle.std.proofs.lemmas.Iterator.{YieldsList-from_slice, YieldsList-from_zip, YieldsList-from_take}
use Rattle.std.proofs.lemmas.Iterator.Search.{all_from_yields_List}
use Rattle.base.specs.Sums.{one}
use Rattle.records.specs.declared.Standing.{Standing}
use Rattle.records.specs.Seen.{no_standing}
use Rattle.records.proofs.Lists.{byte-is}
use Rattle.formed.specs.Names.{times_fine}
use Rattle.formed.proofs.Lists.{all-paired}
use Rattle.formed.proofs.Tally.times_fine.Goals as goal

pub returns : goal.returns
unfolding times_fine
returns c =
    let s = c.args in
    let long : length s.self.now.standings.rooms ≡ length s.self.now.times = search rules in
    let right = λ (r : Standing) (k : ℕ). eqb k (one (ltb 0 r.due)) in
    all_from_yields_List (λ p. right p.0 p.1) c.all.new.self _ _ c.all.ensures.ran
    (YieldsList-from_take s.self.now.standings.n (YieldsList-from_zip (YieldsList-from_slice s.self.now.standings.rooms (cc)) (YieldsList-from_slice s.self.now.times (cc))) (cc))
    (λ x b q k. search (rules, tests, byte-is))
    ∙ all-paired right no_standing 0 refl s.self.now.standings.rooms s.self.now.times long s.self.now.standings.n
