use Rattle.session.proofs.Known.{known-formed, turned-known}
use mathlib.Core.Path.{refl}
use Rattle.session.proofs.turn_known.Goals as goal

pub returns : goal.returns
returns c =
    let s = c.args in
    let answer = c.answer in record {
      as_taken = answer.ensures.as_told;
      known = λ k. let same = answer.ensures.told_rightly (known-formed s.t k _ refl) in (same, turned-known s.t k s.line.now s.out.now _ same.0);
    }
