use Rattle.std.proofs.Common.{rules}
use Rattle.act.proofs.Serving.{upgraded-serves, goes_on, goes_down, ends, turn-empty, turn-waits, turn-conflict, turn-holds, turn-lends, turn-passes}
use Rattle.act.proofs.desk.Desk.serve.Goals.{then-upgrade_waits-via-then-upgrade_waits, then-upgrade_waits-via-else-upgrade_waits+then-not-agree}
use Rattle.act.proofs.desk.Desk.serve.Goals as goal

pub loop-q-init : goal.loop-q-init
loop-q-init c = search upgraded-serves

pub returns-then-upgrade_waits : goal.returns-then-upgrade_waits
returns-then-upgrade_waits c =
    elim c.then-upgrade_waits.branch [
      | then-upgrade_waits-via-then-upgrade_waits w ↦ ends c.loop-q.self _ _ c.loop-q.invariant (turn-waits c.loop-q.self c.in-Some.q c.in-Some.ensures _ c.upgrade_waits.ensures (search rules))
      | then-upgrade_waits-via-else-upgrade_waits+then-not-agree w ↦ search (ends, turn-conflict, c.in-Some.ensures)
    ]

pub loop-q-smaller-then-q-self : goal.loop-q-smaller-then-q-self
loop-q-smaller-then-q-self c = search (goes_down, turn-holds, c.in-Some.ensures)

pub loop-q-preserved-then-q-self : goal.loop-q-preserved-then-q-self
loop-q-preserved-then-q-self c = search (goes_on, turn-holds, c.in-Some.ensures)

pub loop-q-smaller : goal.loop-q-smaller
loop-q-smaller c = search (goes_down, turn-lends, c.in-Some.ensures)

pub loop-q-preserved : goal.loop-q-preserved
loop-q-preserved c = search (goes_on, turn-lends, c.in-Some.ensures)

pub returns-else-can_lend : goal.returns-else-can_lend
returns-else-can_lend c = search (ends, turn-passes, c.in-Some.ensures)

pub returns : goal.returns
returns c = ends c.loop-q.self _ _ c.loop-q.invariant (turn-empty c.loop-q.self c.in_default.ensures)
