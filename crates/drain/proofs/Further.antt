-- From a reached table deliveries and hand-backs, and any other events, lead to reached ones.
use Rattle.std.specs.Prelude.{◌≡◌, refl, ℕ, ◌<◌}
use Rattle.std.proofs.Common.{◌∙◌, ap}
use mathlib.Core.List.{List, [], ◌∷◌, ◌++◌}
use Rattle.base.specs.Choice.{by-test}
use Rattle.table.specs.declared.Table.{Table}
use Rattle.table.specs.Tables.{room_at, fresh_table}
use Rattle.rules.specs.declared.Event.{Event}
use Rattle.rules.specs.Step.{step_of, runs}
use Rattle.safe.specs.Reached.{Reached}
use Rattle.drain.specs.Drains.{is_draining, drained_by, drained, Resting}
use Rattle.drain.proofs.Rest.{resting}

-- one event more
runs-snoc : (t : Table) (es : List Event) (e : Event) → runs t (es ++ (e ∷ [])) ≡ (step_of (runs t es) e).table
unfolding runs
runs-snoc t [] e = refl
runs-snoc t (d ∷ es) e = runs-snoc (step_of t d).table es e

module _ (n : ℕ) where
  step-reached : (t : Table) → Reached n t → (e : Event) → Reached n (step_of t e).table
  step-reached t r e =
      record {
        some = r.some;
        most = r.most;
        events = r.events ++ (e ∷ []);
        leads = runs-snoc (fresh_table n) r.events e ∙ ap (λ (u : Table). (step_of u e).table) r.leads;
      }

  pub drained-by-reached : (t : Table) → Reached n t → (e : Event) → Reached n (drained_by t e)
  unfolding drained_by
  drained-by-reached t r e = by-test (Reached n) (is_draining e) (step_of t e).table t (λ b. step-reached t r e) (λ b. r)

  drained-reached : (t : Table) → Reached n t → (es : List Event) → Reached n (drained t es)
  unfolding drained
  drained-reached t r [] = r
  drained-reached t r (e ∷ es) = drained-reached (drained_by t e) (drained-by-reached t r e) es

  -- "When no more can be accepted" after any of them nobody waits.
  pub drained-rests : (t : Table) → Reached n t → (es : List Event) → Resting (drained t es) → (c : ℕ) → c < n → (room_at (drained t es) c).wanted ≡ 0
  drained-rests t r es = resting n (drained t es) (drained-reached t r es)
