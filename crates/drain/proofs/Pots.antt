-- What a reached table can still do: at the start at most 2n² + 4n + m, and less after each accepted delivery or hand-back.
use Rattle.std.specs.Prelude.{◌≡◌, true, ℕ, ◌+◌, ◌*◌, ◌≤◌, ◌<◌}
use Rattle.std.proofs.Common.{subst, arith}
use Rattle.table.specs.declared.Table.{Table}
use Rattle.table.specs.Numbers.{DONE}
use Rattle.table.specs.Tables.{room_at, queue_of, messages_of, fresh_table}
use Rattle.rules.specs.declared.Event.{Event}
use Rattle.rules.specs.Step.{step_of}
use Rattle.kept.specs.Start.{formed-of}
use Rattle.facts.specs.Moments.{Formed}
use Rattle.facts.specs.Accepted.{unrefused}
use Rattle.measure.specs.Squeeze.{squeeze, squeeze-below, leads-squeezed}
use Rattle.measure.proofs.Bound.{potential-bound}
use Rattle.safe.specs.Reached.{Reached}
use Rattle.safe.specs.Step.{Safe, facts, messages-count}
use Rattle.safe.proofs.Always.{reached-safe, fresh_start}
use Rattle.drain.specs.Drains.{is_draining}
use Rattle.drain.proofs.Steps.{LeadsIn, weight_of, drains-lower}
use Rattle.drain.proofs.Ways.{Way, runs-way, fresh-way}

-- by some heights that lead to the token the table weighs at most k
pub record Pot (t : Table) (k : ℕ) : Type 0 where
  pub height : ℕ → ℕ
  pub leads : LeadsIn t height
  pub within : weight_of t height ≤ k

pub pot-falls : (n : ℕ) (t : Table) (k : ℕ) → Reached n t → Pot t k → (e : Event) → is_draining e ≡ true → (step_of t e).«number» ≡ DONE
    → (j : ℕ) × (j < k) × Pot (step_of t e).table j
pot-falls n t k r p e draining done =
    let l = drains-lower n t (reached-safe n t r) p.height p.leads e draining (unrefused t e done) in
    (weight_of (step_of t e).table l.height, omega (arith, l.less, p.within), record { height = l.height; leads = l.leads; within = omega arith })

module _ (n : ℕ) (t : Table) (r : Reached n t) where
  safe : Safe n t
  safe = reached-safe n t r

  -- heights below the number of rooms
  way : Way t
  way = subst Way r.leads (runs-way n r.events (fresh_table n) (fresh_start n r.some r.most) (fresh-way n r.most))

  low : LeadsIn t (squeeze t.n way.0)
  low = leads-squeezed t.n way.0 (room_at t) (messages_of t) (λ c l. (safe.invariant.sound.room c l).toward-low) way.1

  formed : Formed t.n (room_at t) (queue_of t) (messages_of t)
  formed = formed-of t.n (room_at t) (queue_of t) (messages_of t) safe.invariant.sound

  -- at the start it weighs at most 2n² + 4n + m
  pub pot-start : Pot t (2 * (t.n * t.n) + 4 * t.n + t.count)
  pot-start =
      record {
        height = squeeze t.n way.0;
        leads = low;
        within = omega (
          arith,
          messages-count n t safe,
          potential-bound t.n (facts n t safe).some (room_at t) (queue_of t) (messages_of t) formed (squeeze t.n way.0) (squeeze-below t.n way.0),
        );
      }
