-- Heights can be chosen below the number of rooms: a room's height is the number of rooms that are lower.
use Rattle.std.specs.Prelude.{◌≡◌, ◌≢◌, ◌⊎◌, List, ℕ, ◌+◌, ◌≤◌, ◌<◌, eqb, ltb}
use Rattle.std.proofs.Math.Path.{ap}
use Rattle.std.proofs.Common.{inl, inr}
use native.Mathlib.Omega.{arith}
use borrow.Author.Tests.{ne_eqb, ltb-true, lt-ltb, le-ltb}
use Rattle.base.specs.Choice.{split}
use Rattle.base.specs.Sums.{one, one-le, same?, sum-le, sum-add, sum-hit, sum-short, count_below}
use Rattle.room.specs.declared.Room.{Room}
use Rattle.table.specs.declared.Wire.{Wire}
use Rattle.measure.specs.Way.{Leads}

unfoldable pub squeeze : ℕ → (ℕ → ℕ) → ℕ → ℕ
squeeze n height c = count_below n (λ d. ltb (height d) (height c))

module _ (n : ℕ) (height : ℕ → ℕ) where
  -- a room is not lower than itself
  pub squeeze-below : (c : ℕ) → c < n → squeeze n height c < n
  unfolding squeeze
  squeeze-below c h =
      sum-short n (λ d. one (ltb (height d) (height c))) c h (λ d l. one-le (ltb (height d) (height c)))
      (ap one (le-ltb (height c) (height c) (omega arith)))

  -- what is lower than b is lower than c, and so is b
  squeeze-falls : (b c : ℕ) → b < n → height b < height c → squeeze n height b < squeeze n height c
  unfolding squeeze
  squeeze-falls b c h l = omega (
    arith,
    sum-add n (λ d. one (ltb (height d) (height b))) (λ d. one (eqb b d)),
    sum-hit n b h,
    sum-le n (λ d. one (ltb (height d) (height b)) + one (eqb b d)) (λ d. one (ltb (height d) (height c))) (λ d k. each d (same? b d)),
  )
    where
      each : (d : ℕ) → (b ≡ d) ⊎ (b ≢ d) → one (ltb (height d) (height b)) + one (eqb b d) ≤ one (ltb (height d) (height c))
      each d (inl e) =
          rw (← e) (omega (
            arith,
            ap one (le-ltb (height b) (height b) (omega arith)),
            one-le (eqb b b),
            ap one (lt-ltb (height b) (height c) l),
          ))
      each d (inr e) =
          split (ltb (height d) (height b))
          (λ q. omega (
            arith,
            ap one q,
            ap one (ne_eqb b d e),
            ap one (lt-ltb (height d) (height c) (omega (arith, ltb-true (height d) (height b) q))),
          ))
          (λ q. omega (arith, ap one q, ap one (ne_eqb b d e)))

  pub leads-squeezed : (rooms : ℕ → Room) (messages : List Wire) → ((c : ℕ) → c < n → (rooms c).toward < n)
      → Leads n rooms messages height → Leads n rooms messages (squeeze n height)
  leads-squeezed rooms messages low leads c h t z = squeeze-falls (rooms c).toward c (low c h) (leads c h t z)
