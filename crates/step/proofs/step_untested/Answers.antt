use Rattle.std.proofs.Common.{refl, arith}
use Rattle.table.proofs.Known.{wires-long}
use Rattle.step.proofs.Ends.{plan-sizes, step_fits, told-made, step-made}
use Rattle.step.proofs.step_untested.Goals as goal

pub fits-requires : goal.fits-requires
fits-requires c = plan-sizes c.args.t (wires-long c.args.t c.well_formed.0) c.args.e c.args.formed _ (grind arith)

pub written-requires : goal.written-requires
written-requires c =
    step_fits c.args.t (wires-long c.args.t c.well_formed.0) c.args.e c.args.formed _ (grind arith) 0 (grind arith) refl

pub returns : goal.returns
returns c =
    let a = c.args in
    let long = wires-long a.t c.well_formed.0 in
    record {
      as_told = told-made a.t long a.e a.formed _ (grind arith) 0 (grind arith) refl _ c.written.ensures;
      told_rightly = λ right. step-made a.t c.well_formed.0 a.e a.formed _ (grind arith) 0 (grind arith) right refl _ c.written.ensures;
    }
