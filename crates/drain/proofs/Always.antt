-- Demand 3, second half, of every table that events lead to from a fresh one.
use Rattle.std.specs.Prelude.{List, ℕ, ◌+◌, ◌*◌, ◌≤◌}
use Rattle.std.proofs.Common.{arith}
use Rattle.table.specs.declared.Table.{Table}
use Rattle.rules.specs.declared.Event.{Event}
use Rattle.safe.specs.Reached.{Reached}
use Rattle.safe.proofs.Always.{reached-safe}
use Rattle.drain.specs.Drains.{steps, bound, Drains}
use Rattle.drain.proofs.Pots.{Pot, pot-falls, pot-start}
use Rattle.drain.proofs.Further.{drained-rests}
use Rattle.drain.proofs.Ends.{few, comes}
use Rattle.drain.proofs.Goes.{choices, choices-go-on}
use Rattle.drain.proofs.Given.{given-way}

module _ (n : ℕ) (t : Table) (r : Reached n t) where
  -- what the measure gives
  pub drains-sooner : (es : List Event) → steps t es ≤ 2 * (t.n * t.n) + 4 * t.n + t.count
  drains-sooner es = few n Pot (pot-falls n) es t _ r (pot-start n t r)

  -- "at most 3n² + 8n + m further steps are accepted"
  few-steps : (es : List Event) → steps t es ≤ bound t
  few-steps es = omega (arith, drains-sooner es)

  pub drains : Drains n t
  drains =
      record {
        few = few-steps;
        rests = λ es h. drained-rests n t r es h;
        given = λ es h c l w. given-way n es t (reached-safe n t r) c l w (drained-rests n t r es h c l);
        comes = comes (bound t) t few-steps;
        goes = (choices n t r, choices-go-on n t r);
      }
