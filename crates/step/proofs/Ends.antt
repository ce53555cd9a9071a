-- From the plan to the step: a refusal, or a plan that is made, has worn nothing out and has room for what it sends.
use mathlib.Core.Path.{◌≡◌, sym, ◌∙◌, ap}
use mathlib.Core.Logic.{◌≢◌, ◌⊎◌, inl, inr}
use mathlib.Core.Bool.{Bool, false, ◌&&◌}
use mathlib.Core.List.{List}
use Prim.Native.Nat.{ℕ, ◌-◌, ◌≤◌, ◌<◌}
use native.Mathlib.Omega.{arith}
use lib.ListN.{length}
use mir.Val.{Val}
use denote.Laws.{Is}
use borrow.Author.Tests.{eq-eqb, ne_eqb}
use Rattle.base.specs.Choice.{split}
use Rattle.base.specs.Tests.{and_right}
use Rattle.base.specs.Sums.{same?, below?}
use Rattle.std.specs.Prelude.{Result, Err}
use Rattle.table.specs.declared.Table.{Table}
use Rattle.table.specs.declared.refusal.Refusal.{Refusal}
use Rattle.table.specs.Numbers.{number_of}
use Rattle.table.specs.Tables.{Answer}
use Rattle.table.specs.Limits.{wire_limit}
use Rattle.table.specs.Tables.{answer, answer_in}
use Rattle.table.specs.contracts.Table as tables
use Rattle.table.proofs.Known.{wires-long, number-some}
use Rattle.table.specs.Formed.{well_formed}
use Rattle.rules.specs.declared.Event.{Event}
use Rattle.rules.specs.Step.{step_of}
use Rattle.plan.specs.Plans.{Making, Planned, placed, plan_as, planned_in, refused_plan}
use Rattle.step.specs.Writes.{left, Takes, Sized, Fits, written_of, ending_of, ends_in, step_as}
use Rattle.step.proofs.Known.{shaped}
use Rattle.step.proofs.Outcomes.{outcome-worn, outcome-full, outcome-done, ending-own, ending-worn, ending-full, ending-done}
use Rattle.step.proofs.Splice.{fewer}
use Rattle.step.proofs.Sizes.{told-rightly, takes_of}
use Rattle.step.proofs.Writes.{written-writes}
use Rattle.step.proofs.Plans.{Made, plans-of, Leads, leads-of}

-- the plan, and a table with its messages' places
module _ (t : Table) (long : length t.wires ≡ wire_limit) (e : Event) (formed : Bool) (p : Planned) (q : p ≡ plan_as (formed && placed t) t e) where
  takes : p.«number» ≡ 0 → Takes t p.me p.taken
  takes z = takes_of t long e (formed && placed t) (λ h. and_right formed (placed t) h) p q z

  -- a plan that is made takes its message from the messages that there are
  pub plan-sizes : Sized t.count p
  plan-sizes = record { low = λ z. (takes z).low; high = λ z. (takes z).count }

  module _ (k : ℕ) (h : k ≡ ending_of t.count p) where
    -- a plan whose end is 0 is made, has worn nothing out and has room for what it sends
    record Ends : Type 0 where
      zero : p.«number» ≡ 0
      free : p.done.worn ≡ false
      fits : length p.done.sent ≤ wire_limit - left t.count p.taken

    -- how a plan ends: a refusal of its own, WORN, FULL, or done
    ends : k ≡ 0 → Ends
    ends z = go (same? p.«number» 0)
      where
        over : p.«number» ≡ 0 → p.done.worn ≡ false → (wire_limit - left t.count p.taken < length p.done.sent) ⊎ (length p.done.sent ≤ wire_limit - left t.count p.taken) → Ends
        over n f (inl b) = absurd (omega (arith, h ∙ sym (ending-full t.count p n f b)))
        over n f (inr b) = record { zero = n; free = f; fits = b }

        go : (p.«number» ≡ 0) ⊎ (p.«number» ≢ 0) → Ends
        go (inr n) = absurd (n (ending-own t.count p n ∙ sym h ∙ z))
        go (inl n) =
            split p.done.worn (λ f. absurd (omega (arith, h ∙ sym (ending-worn t.count p n f))))
            (λ f. over n f (below? (wire_limit - left t.count p.taken) (length p.done.sent)))

    -- what is given back for any table, well formed or not
    pub told-refused : (k ≡ 0 → ⊥) → answer k t ≡ step_as formed t e
    unfolding step_as ends_in
    told-refused z =
        ap (λ (x : ℕ). answer x t) h ∙ sym (simp (ne_eqb (ending_of t.count p) 0 (λ b. z (h ∙ b))))
        ∙ ap (ends_in t) q

    module _ (z : k ≡ 0) where
      pub step_fits : Fits t p
      step_fits =
          record {
            takes = takes (ends z).zero;
            room = omega (arith, (ends z).fits, fewer t p.me p.taken (takes (ends z).zero) long, (takes (ends z).zero).count);
          }

      pub told-made : (u : Table) → u ≡ written_of t p → answer 0 u ≡ step_as formed t e
      unfolding step_as ends_in
      told-made u w = ap (answer 0) w ∙ sym (simp (eq-eqb (ending_of t.count p) 0 (sym h ∙ z))) ∙ ap (ends_in t) q

    -- told rightly, it is the step
    module _ (right : formed ≡ well_formed t) where
      told : p ≡ plan_as (well_formed t) t e
      told = q ∙ ap (λ (b : Bool). plan_as b t e) (told-rightly t formed right)

      s : Leads t e p
      s = leads-of t e p told

      pub step-refused : (k ≡ 0 → ⊥) → answer k t ≡ step_of t e
      step-refused z = go (same? p.«number» 0)
        where
          over : (n : p.«number» ≡ 0) → p.done.worn ≡ false → (wire_limit - left t.count p.taken < length p.done.sent) ⊎ (length p.done.sent ≤ wire_limit - left t.count p.taken)
              → answer k t ≡ step_of t e
          over n f (inl b) =
              ap (λ (x : ℕ). answer x t) (h ∙ sym (ending-full t.count p n f b))
              ∙ outcome-full t p.me p.taken (takes n) long p.done f b ∙ s.ends n
          over n f (inr b) = absurd (z (h ∙ sym (ending-done t.count p n f b)))

          go : (p.«number» ≡ 0) ⊎ (p.«number» ≢ 0) → answer k t ≡ step_of t e
          go (inr n) = ap (λ (x : ℕ). answer x t) (h ∙ sym (ending-own t.count p n)) ∙ s.refused n
          go (inl n) =
              split p.done.worn
              (λ f. ap (λ (x : ℕ). answer x t) (h ∙ sym (ending-worn t.count p n f))
              ∙ outcome-worn t p.me p.taken (takes n) long p.done f ∙ s.ends n)
              (λ f. over n f (below? (wire_limit - left t.count p.taken) (length p.done.sent)))

-- a step that is made, on a table as the code has it
module _ (t : Table) {vs : List Val} (g : Is tables.the_row t vs) (e : Event) (formed : Bool) (p : Planned) (q : p ≡ plan_as (formed && placed t) t e)
    (k : ℕ) (h : k ≡ ending_of t.count p) (right : formed ≡ well_formed t) (z : k ≡ 0) where
  long : length t.wires ≡ wire_limit
  long = wires-long t g

  end : Ends t long e formed p q k h
  end = ends t long e formed p q k h z

  made : Made t e p
  made = (plans-of t (shaped t g) e p (told t long e formed p q k h right)).made end.zero

  pub step-made : (u : Table) → u ≡ written_of t p → answer 0 u ≡ step_of t e
  step-made u w =
      outcome-done t p.me p.taken made.takes long p.done end.free end.fits (answer 0 u)
      (ap (answer 0)
      (w ∙ written-writes t p made.takes long (step_fits t long e formed p q k h z).room made.blank made.me made.few))
      ∙ made.step

-- The refusals, from what the calls give: of the plan itself,
module _ (t : Table) (long : length t.wires ≡ wire_limit) (e : Event) (formed : Bool) (r : Result Making Refusal)
    (q : planned_in r ≡ plan_as (formed && placed t) t e) (why : Refusal) (h : r ≡ Err why) where
  some : number_of why ≡ 0 → ⊥
  some = number-some why

  own : number_of why ≡ ending_of t.count (refused_plan (number_of why))
  own = ending-own t.count (refused_plan (number_of why)) some

  pub told_unplanned : answer_in t (Err why) ≡ step_as formed t e
  told_unplanned = told-refused t long e formed (refused_plan (number_of why)) (rw h at q) _ own some

  pub step_unplanned : formed ≡ well_formed t → answer_in t (Err why) ≡ step_of t e
  step_unplanned right = step-refused t long e formed (refused_plan (number_of why)) (rw h at q) _ own right some

-- and of one that can't be written
module _ (t : Table) (long : length t.wires ≡ wire_limit) (e : Event) (formed : Bool) (p : Planned)
    (q : p ≡ plan_as (formed && placed t) t e) (why : Refusal) (h : number_of why ≡ ending_of t.count p) where
  pub told_unfit : answer_in t (Err why) ≡ step_as formed t e
  told_unfit = told-refused t long e formed p q _ h (number-some why)

  pub step_unfit : formed ≡ well_formed t → answer_in t (Err why) ≡ step_of t e
  step_unfit right = step-refused t long e formed p q _ h right (number-some why)

-- what was told is right
pub told-right : (formed : Bool) (t : Table) (e : Event) (r : Answer) → formed ≡ well_formed t → (formed ≡ well_formed t → r ≡ step_of t e) → r ≡ step_of t e
told-right formed t e r right h = h right
