-- Where every accepted delivery or hand-back lowers a measure, few of them are accepted, and whoever goes on comes to rest.
use Rattle.std.specs.Prelude.{◌≡◌, refl, true, false, ℕ, zero, suc, ◌+◌, ◌≤◌, ◌<◌}
use Rattle.std.proofs.Common.{ap, ⊎_elim, eqb-true}
use Rattle.std.proofs.Math.Path.{subst⁻¹}
use mathlib.Core.List.{List, [], ◌∷◌}
use native.Mathlib.Omega.{arith}
use Rattle.std.proofs.lemmas.Bool.{eqb-false}
use Rattle.base.specs.Choice.{split}
use Rattle.base.specs.Tests.{clash}
use Rattle.base.specs.Sums.{one}
use Rattle.table.specs.declared.Table.{Table}
use Rattle.table.specs.Numbers.{DONE}
use Rattle.rules.specs.declared.Event.{Event}
use Rattle.rules.specs.Step.{step_of}
use Rattle.kept.specs.Kept.{refused-stays}
use Rattle.safe.specs.Reached.{Reached}
use Rattle.drain.specs.Drains.{is_draining, drained_by, is_made, drained, steps, Resting, firsts, GoesOn}
use Rattle.drain.proofs.Further.{drained-by-reached}

-- a delivery or a hand-back that is accepted: the table after it is the step's
drained-step : (t : Table) (e : Event) → is_draining e ≡ true → drained_by t e ≡ (step_of t e).table
unfolding drained_by
drained-step t e d = rw d refl

-- what was made is a delivery or a hand-back, and was accepted
made-accepted : (t : Table) (e : Event) → is_made t e ≡ true → (is_draining e ≡ true) × ((step_of t e).«number» ≡ DONE)
unfolding is_made
made-accepted t e h = split (is_draining e) (λ d. (d, eqb-true _ _ (rw d at h))) (λ d. clash (rw d at h) refl)

-- what was not made leaves the table
pub unmade-stays : (t : Table) (e : Event) → is_made t e ≡ false → drained_by t e ≡ t
unfolding is_made drained_by
unmade-stays t e h = split (is_draining e) (λ d. rw d (refused-stays t e (eqb-false _ _ (rw d at h)))) (λ d. rw d refl)

module _ (n : ℕ) (Pot : Table → ℕ → Type 0)
    (fall : (t : Table) (k : ℕ) → Reached n t → Pot t k → (e : Event) → is_draining e ≡ true → (step_of t e).«number» ≡ DONE
    → (j : ℕ) × (j < k) × Pot (step_of t e).table j) where
  -- an event that is made lowers the measure, any other leaves it
  paid : (t : Table) (k : ℕ) → Reached n t → Pot t k → (e : Event) → (j : ℕ) × (one (is_made t e) + j ≤ k) × Pot (drained_by t e) j
  paid t k r p e = split (is_made t e) made unmade
    where
      made : is_made t e ≡ true → (j : ℕ) × (one (is_made t e) + j ≤ k) × Pot (drained_by t e) j
      made h =
          let a = made-accepted t e h in
          let f = fall t k r p e a.0 a.1 in
          (f.0, omega (arith, ap one h, f.1), subst⁻¹ (λ (u : Table). Pot u f.0) (drained-step t e a.0) f.2)

      unmade : is_made t e ≡ false → (j : ℕ) × (one (is_made t e) + j ≤ k) × Pot (drained_by t e) j
      unmade h = (k, omega (arith, ap one h), subst⁻¹ (λ (u : Table). Pot u k) (unmade-stays t e h) p)

  -- "at most .. further steps are accepted": no more than the measure
  pub few : (es : List Event) (t : Table) (k : ℕ) → Reached n t → Pot t k → steps t es ≤ k
  unfolding steps
  few [] t k r p = omega arith
  few (e ∷ es) t k r p =
      let f = paid t k r p e in
      omega (arith, f.1, few es (drained_by t e) f.0 (drained-by-reached n t r e) f.2)

-- Whoever goes on comes to rest within the number of events that can be made.
pub comes : (b : ℕ) (t : Table) → ((es : List Event) → steps t es ≤ b) → (next : ℕ → Event) → GoesOn t next
    → (k : ℕ) × (k ≤ b) × Resting (drained t (firsts k next))
unfolding steps drained firsts
comes zero t most next on = ⊎_elim (λ q. (zero, omega arith, q)) (λ made. absurd (omega (arith, most (next zero ∷ []), ap one made))) (on zero)
comes (suc b) t most next on =
    ⊎_elim (λ q. (zero, omega arith, q))
    (λ made.
    let rest = comes b (drained_by t (next zero)) (λ es. omega (arith, most (next zero ∷ es), ap one made)) (λ i. next (suc i)) (λ k. on (suc k)) in
    (suc rest.0, omega (arith, rest.1), rest.2))
    (on zero)
