-- The steps that are left: none on a table that is not well formed, and a number that fits on one that is.
use mathlib.Core.Path.{◌≡◌, refl, sym, ◌∙◌}
use mathlib.Core.Bool.{Bool, true, false, not, true≢false}
use mathlib.Core.List.{List, [], ◌∷◌}
use Prim.Native.Nat.{◌*◌, ◌≤◌}
use native.Mathlib.Omega.{arith}
use native.Mathlib.Nat.{mul-le-mul}
use borrow.Author.Tests.{leb-true, ne_eqb, not-true, not-false}
use Rattle.std.specs.Prelude.{if◌then◌else◌}
use Rattle.base.specs.Tests.{and_left, and_right}
use Rattle.table.specs.declared.Table.{Table}
use Rattle.table.specs.Formed.{sizes_fit, well_formed}
use Rattle.rules.specs.declared.Event.{Event}
use Rattle.facts.specs.Accepted.{ill-formed-refused}
use Rattle.facts.specs.Whole.{rooms-low}
use Rattle.drain.specs.Drains.{is_draining, is_made, steps, bound}
use Rattle.drain.proofs.Ends.{unmade-stays}
use Rattle.drain.proofs.Always.{drains}
use Rattle.run.specs.Drains.{left_of, IsLeft}

-- on a table that is not well formed each event is refused, so none is a step
module _ (t : Table) (h : well_formed t ≡ false) where
  refused-made : (e : Event) → is_made t e ≡ false
  unfolding is_made
  refused-made e = rw (ne_eqb _ _ (ill-formed-refused t e h)) (go (is_draining e))
    where
      go : (b : Bool) → (if b then false else false) ≡ false
      go true = refl
      go false = refl

  never-steps : (events : List Event) → steps t events ≡ 0
  unfolding steps
  never-steps [] = refl
  never-steps (e ∷ es) = rw (refused-made e, unmade-stays t e (refused-made e)) (omega (arith, never-steps es))

-- the sizes of a table that passes the test
pub record Sizes (t : Table) : Type 0 where
  pub rooms : t.n ≤ 16
  pub pairs : t.n * t.n ≤ 256
  pub count : t.count ≤ 256

sizes : (t : Table) → well_formed t ≡ true → Sizes t
unfolding well_formed sizes_fit
sizes t h =
    let low = rooms-low t h in
    record { rooms = low; pairs = mul-le-mul low low; count = leb-true _ _ (search (and_left, and_right) depth 25 fits 4000) }

module _ (t : Table) (b : Bool) (p : b ≡ well_formed t) where
  pub left-none : not b ≡ true → IsLeft t 0
  unfolding left_of
  left-none h =
      let none : well_formed t ≡ false = sym p ∙ not-true b h in
      record { is = rw none refl; enough = λ n r es. omega (arith, never-steps t none es); never = λ g. never-steps t none }

  module _ (h : not b ≡ false) where
    formed : well_formed t ≡ true
    formed = sym p ∙ not-false b h

    pub left_sizes : Sizes t
    left_sizes = sizes t formed

    pub left-some : IsLeft t (bound t)
    unfolding left_of
    left-some = record { is = rw formed refl; enough = λ n r. (drains n t r).few; never = λ g. absurd (true≢false (sym formed ∙ g)) }
