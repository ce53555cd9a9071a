use Rattle.run.specs.Runs.{events_of}
use Rattle.run.proofs.Drains.{Draining}
use Rattle.run.proofs.draining.drain.Given as goal

abbrev pub invariant-loop-e : goal.invariant-loop-e
invariant-loop-e l =
    (goal.iterator-loop-e).can_next l.e-iterator × (goal.iterator-loop-e).is_finite l.e-iterator
    × Draining l.fn.t (events_of l.fn.events) l.table l.steps (events_of l.e-iterator.0.now)
