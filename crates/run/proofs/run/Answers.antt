use Rattle.std.proofs.Common.{rules, ◌≡◌, Err, arith}
use Rattle.table.proofs.Laws.{fresh_room}
use Rattle.run.proofs.Runs.{run-refused, run-made}
use Rattle.run.proofs.run.Goals as goal

pub returns-in_err-fresh : goal.returns-in_err-fresh
returns-in_err-fresh c =
    let same : c.from_residual.result ≡ Err c.in_err-fresh.field-0.0 = search rules in
    rw same (run-refused _ _ _ (grind (arith, fresh_room)))

pub returns : goal.returns
returns c = run-made _ _ _ (grind arith) _ c.made.ensures
