use Rattle.std.proofs.Common.{sym, ◌∙◌}
use native.Mathlib.Omega.{arith}
use Rattle.run.proofs.Events.{events-few}
use Rattle.run.proofs.Drains.{step-counts, step-fits, passed-over, draining-all}
use Rattle.run.proofs.draining.drain.Goals as goal

pub overflow_add-steps : goal.overflow_add-steps
overflow_add-steps c =
    record { fits = omega (arith, step-fits _ _ _ _ _ c.loop-e.invariant.2 _ _ c.in-Some.ensures.steps _ (sym c.after.ensures ∙ c.in-Some-after.is), events-few c.args.events.now) }

pub loop-e-preserved-in-Some-after : goal.loop-e-preserved-in-Some-after
loop-e-preserved-in-Some-after c =
    (tt, tt, step-counts _ _ _ _ _ c.loop-e.invariant.2 _ _ c.in-Some.ensures.steps _ (sym c.after.ensures ∙ c.in-Some-after.is))

pub loop-e-preserved : goal.loop-e-preserved
loop-e-preserved c = (tt, tt, passed-over _ _ _ _ _ c.loop-e.invariant.2 _ _ c.in-Some.ensures.steps (sym c.after.ensures ∙ c.in_default.is))

pub returns : goal.returns
returns c = draining-all _ _ _ _ _ c.loop-e.invariant.2 c.in-None.ensures.steps.0
