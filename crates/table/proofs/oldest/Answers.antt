use Rattle.std.proofs.Common.{◌∙◌, sym, arith}
use Rattle.table.proofs.Known.{wires-long}
use Rattle.table.proofs.Laws.{oldest-absent, oldest-present}
use Rattle.table.proofs.oldest.Goals as goal

pub returns-in_err-place : goal.returns-in_err-place
returns-in_err-place c =
    c.from_residual.ensures ∙ oldest-absent _ _ _ (wires-long c.args.t c.well_formed.0) _ (sym c.in_err-place.ensures) (omega arith)

pub returns : goal.returns
returns c = oldest-present _ _ _ (wires-long c.args.t c.well_formed.0) _ _ (sym c.in_ok-place.ensures) (omega arith)
