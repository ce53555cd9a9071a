-- A drain: what one event adds to it, and the loop over the events.
use mathlib.Core.Path.{◌≡◌, refl, sym, ◌∙◌, ap}
use mathlib.Core.Bool.{Bool, true, false}
use mathlib.Core.Logic.{◌≢◌, ◌⊎◌, inl, inr}
use mathlib.Core.List.{List, [], ◌∷◌}
use Prim.Native.Nat.{ℕ, ◌+◌, ◌≤◌, ◌<◌}
use native.Mathlib.Omega.{arith}
use lib.ListN.{length}
use borrow.Author.Tests.{ne_eqb}
use Rattle.std.specs.Prelude.{Some, None, Result, Ok, Err, eqb, if◌then◌else◌}
use Rattle.std.specs.Result.{result_ok}
use Rattle.base.specs.Sums.{one, one-le}
use Rattle.table.specs.declared.Table.{Table}
use Rattle.table.specs.declared.refusal.Refusal.{Refusal}
use Rattle.table.specs.Numbers.{DONE, number_of}
use Rattle.table.specs.Tables.{answer_in}
use Rattle.table.proofs.Known.{number-some}
use Rattle.rules.specs.declared.Event.{Event}
use Rattle.rules.specs.declared.Kind.{Kind}
use Rattle.rules.specs.declared.Kind.TheVariants as kind
use Rattle.rules.specs.Events.{ASK, UPGRADE, HANDBACK, DELIVER, code_of, Decodes}
use Rattle.rules.specs.Step.{step_of}
use Rattle.drain.specs.Drains.{is_draining, drained_by, is_made, drained, steps}
use Rattle.drain.proofs.Ends.{unmade-stays}
use Rattle.drain.proofs.Always.{drains}
use Rattle.run.specs.Drains.{after_of, IsDrained}

-- what an answer says of a step
made-ok : (t : Table) (r : Result Table Refusal) → result_ok r ≡ (if eqb (answer_in t r).«number» DONE then Some (answer_in t r).table else None)
made-ok t (Ok u) = refl
made-ok t (Err why) = rw (ne_eqb (number_of why) DONE (number-some why)) refl

-- a number is that of the kind that it is read as, and that of no kind where it is read as none
read-as : (k : ℕ) (r : Result Kind Refusal) → Decodes k r → (a : Kind) → result_ok r ≡ Some a → code_of a ≡ k
read-as k (Ok b) d a h = let same : b ≡ a = cc in rw (← same) d
read-as k (Err why) d a h = absurd (cc)

read-as-none : (k : ℕ) (r : Result Kind Refusal) → Decodes k r → result_ok r ≡ None → DELIVER < k
read-as-none k (Ok b) d h = absurd (cc)
read-as-none k (Err why) d h = d.1

-- what is neither a hand-back nor a delivery is no step
after_none : (t : Table) (e : Event) → e.kind ≢ HANDBACK → e.kind ≢ DELIVER → None ≡ after_of t e
unfolding after_of is_made is_draining
after_none t e h d = rw (ne_eqb e.kind HANDBACK h, ne_eqb e.kind DELIVER d) refl

module _ (t : Table) (e : Event) (r : Result Kind Refusal) (d : Decodes e.kind r) where
  pub after_unknown : result_ok r ≡ None → None ≡ after_of t e
  after_unknown h =
      let high = read-as-none e.kind r d h in
      after_none t e (λ k. omega (arith, high, k)) (λ k. omega (arith, high, k))

  module _ (a : Kind) (h : result_ok r ≡ Some a) where
    reads : code_of a ≡ e.kind
    reads = read-as e.kind r d a h

    pub after_other : (a ≡ kind.Ask) ⊎ (a ≡ kind.Upgrade) → None ≡ after_of t e
    after_other (inl p) = let k : ASK ≡ e.kind = rw p at reads in after_none t e (λ z. omega (arith, k, z)) (λ z. omega (arith, k, z))
    after_other (inr p) = let k : UPGRADE ≡ e.kind = rw p at reads in after_none t e (λ z. omega (arith, k, z)) (λ z. omega (arith, k, z))

    -- a hand-back or a delivery is a step if it is accepted
    pub after_made : (a ≡ kind.HandBack) ⊎ (a ≡ kind.Deliver) → (s : Result Table Refusal) → answer_in t s ≡ step_of t e → result_ok s ≡ after_of t e
    unfolding after_of drained_by is_made is_draining
    after_made (inl p) s q = let k : HANDBACK ≡ e.kind = rw p at reads in rw (made-ok t s, q, ← k) refl
    after_made (inr p) s q = let k : DELIVER ≡ e.kind = rw p at reads in rw (made-ok t s, q, ← k) refl

-- u is the table after the events before these, and k of them were steps
pub record Draining (t : Table) (all : List Event) (u : Table) (k : ℕ) (rest : List Event) : Type 0 where
  pub on : drained u rest ≡ drained t all
  pub accepted : k + steps u rest ≡ steps t all

some-is : {A : Type 0} (b : Bool) (x y : A) → (if b then Some x else None) ≡ Some y → (b ≡ true) × (y ≡ x)
some-is true x y h = (refl, cc)
some-is false x y h = absurd (cc)

none-is : {A : Type 0} (b : Bool) (x : A) → (if b then Some x else None) ≡ None → b ≡ false
none-is true x h = absurd (cc)
none-is false x h = refl

steps-few : (t : Table) (es : List Event) → steps t es ≤ length es
unfolding steps
steps-few t [] = omega arith
steps-few t (e ∷ es) = omega (arith, one-le (is_made t e), steps-few (drained_by t e) es)

module _ (t : Table) (all : List Event) (u : Table) (k : ℕ) (rest : List Event) (b : Draining t all u k rest) where
  module _ (e : Event) (es : List Event) (p : rest ≡ e ∷ es) where
    -- a step goes into the count
    pub step-counts : (v : Table) → after_of u e ≡ Some v → Draining t all v (k + 1) es
    unfolding after_of drained steps
    step-counts v h =
        let is = some-is (is_made u e) (drained_by u e) v h in
        record { on = rw is.1 (ap (drained u) (sym p) ∙ b.on); accepted = rw is.1 (omega (arith, ap one is.0, ap (steps u) p, b.accepted)) }

    pub step-fits : (v : Table) → after_of u e ≡ Some v → k + 1 ≤ length all
    step-fits v h = omega (arith, (step-counts v h).accepted, steps-few t all)

    -- what is no step leaves the table
    pub passed-over : after_of u e ≡ None → Draining t all u k es
    unfolding after_of drained steps
    passed-over h =
        let no : is_made u e ≡ false = none-is (is_made u e) (drained_by u e) h in
        let stays = unmade-stays u e no in
        record {
          on = ap (λ (w : Table). drained w es) (sym stays) ∙ ap (drained u) (sym p) ∙ b.on;
          accepted = omega (arith, ap one no, ap (λ (w : Table). steps w es) stays, ap (steps u) p, b.accepted);
        }

  pub draining-all : rest ≡ [] → IsDrained t all (record { table = u; steps = k })
  unfolding drained steps
  draining-all h =
      let counted : k ≡ steps t all = omega (arith, ap (steps u) h, b.accepted) in
      record {
        after = ap (drained u) (sym h) ∙ b.on;
        accepted = counted;
        drains = λ n r. drains n t r;
        few = λ n r. rw counted ((drains n t r).few all);
      }
