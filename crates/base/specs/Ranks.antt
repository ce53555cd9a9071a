-- Numbers that rank things, with one of them put at the bottom.
use Rattle.std.specs.Prelude.{◌≡◌, refl, ◌≢◌, ◌⊎◌, ℕ, ◌+◌, ◌≤◌, ◌<◌, eqb, if◌then◌else◌}
use Rattle.std.proofs.Common.{inl, inr, arith, eq-eqb, ne_eqb}
use Rattle.base.specs.Choice.{by-test}
use Rattle.base.specs.Sums.{same?}

-- r gets 0, everyone else one more
unfoldable pub rerooted : ℕ → (ℕ → ℕ) → ℕ → ℕ
rerooted r rank c = if eqb c r then 0 else rank c + 1

module _ (r : ℕ) (rank : ℕ → ℕ) where
  pub rerooted-here : rerooted r rank r ≡ 0
  unfolding rerooted
  rerooted-here = simp (eq-eqb r r refl)

  pub rerooted-other : (c : ℕ) → c ≢ r → rerooted r rank c ≡ rank c + 1
  unfolding rerooted
  rerooted-other c ne = simp (ne_eqb c r ne)

  pub rerooted-le : (c : ℕ) → rerooted r rank c ≤ rank c + 1
  unfolding rerooted
  rerooted-le c = by-test (λ (k : ℕ). k ≤ rank c + 1) (eqb c r) 0 (rank c + 1) (λ e. omega arith) (λ e. omega arith)

  -- r is below all others
  pub rerooted-root : (c : ℕ) → c ≢ r → rerooted r rank r < rerooted r rank c
  rerooted-root c ne = omega (arith, rerooted-here, rerooted-other c ne)

  -- who was above another is so still, but for r
  pub rerooted-falls : (b c : ℕ) → c ≢ r → rank b < rank c → rerooted r rank b < rerooted r rank c
  rerooted-falls b c ne h = go (same? b r)
    where
      go : (b ≡ r) ⊎ (b ≢ r) → rerooted r rank b < rerooted r rank c
      go (inl e) = rw e (rerooted-root c ne)
      go (inr e) = omega (arith, rerooted-other b e, rerooted-other c ne)
