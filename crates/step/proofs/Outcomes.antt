-- WORN, FULL or done: what is given back for a plan is what the rules give.
use mathlib.Core.Path.{◌≡◌, sym, ◌∙◌}
use mathlib.Core.Bool.{true, false}
use mathlib.Core.List.{◌++◌}
use Prim.Native.Nat.{ℕ, ◌-◌, ◌≤◌, ◌<◌}
use native.Mathlib.Omega.{arith}
use lib.ListN.{length}
use borrow.Author.Tests.{lt-ltb, le-ltb, ne_eqb}
use Rattle.table.specs.declared.Table.{Table}
use Rattle.table.specs.Tables.{Answer}
use Rattle.table.specs.Limits.{wire_limit}
use Rattle.table.specs.Tables.{answer}
use Rattle.rules.specs.Work.{Work}
use Rattle.rules.specs.Step.{after, outcome}
use Rattle.plan.specs.Plans.{Planned}
use Rattle.step.specs.Writes.{without, left, Takes, ending_of}
use Rattle.std.specs.Prelude.{Option}
use Rattle.step.proofs.Splice.{fewer, total}

-- what was done, as an outcome: WORN, FULL or the table that is written
module _ (t : Table) (me : ℕ) (taken : Option ℕ) (k : Takes t me taken) (long : length t.wires ≡ wire_limit) (w : Work) where
  pub outcome-worn : w.worn ≡ true → answer 10 t ≡ outcome t (without t taken) w
  unfolding outcome
  outcome-worn h = sym (simp h)

  module _ (free : w.worn ≡ false) where
    pub outcome-full : wire_limit - left t.count taken < length w.sent → answer 11 t ≡ outcome t (without t taken) w
    unfolding outcome
    outcome-full h =
        let over : wire_limit < length (without t taken ++ w.sent) = omega (arith, total t me taken k long w.sent, k.count) in
        sym (simp (free, lt-ltb _ _ over))

    pub outcome-done : length w.sent ≤ wire_limit - left t.count taken → (r : Answer) → r ≡ answer 0 (after t (without t taken) w) → r ≡ outcome t (without t taken) w
    unfolding outcome
    outcome-done h r s =
        let under : length (without t taken ++ w.sent) ≤ wire_limit = omega (arith, total t me taken k long w.sent, fewer t me taken k long, k.count) in
        s ∙ sym (simp (free, le-ltb _ _ under))

-- the branches of the number that is given back
module _ (count : ℕ) (p : Planned) where
  pub ending-own : (p.«number» ≡ 0 → ⊥) → p.«number» ≡ ending_of count p
  unfolding ending_of
  ending-own h = simp (ne_eqb _ _ h)

  module _ (z : p.«number» ≡ 0) where
    pub ending-worn : p.done.worn ≡ true → 10 ≡ ending_of count p
    unfolding ending_of
    ending-worn h = simp (z, h)

    module _ (free : p.done.worn ≡ false) where
      pub ending-full : wire_limit - left count p.taken < length p.done.sent → 11 ≡ ending_of count p
      unfolding ending_of
      ending-full h = simp (z, free, lt-ltb _ _ h)

      pub ending-done : length p.done.sent ≤ wire_limit - left count p.taken → 0 ≡ ending_of count p
      unfolding ending_of
      ending-done h = simp (z, free, le-ltb _ _ h)
