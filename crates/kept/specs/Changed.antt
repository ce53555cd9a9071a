-- Rooms of which one has a changed record: in a step only one room acts.
use Rattle.std.specs.Prelude.{◌≡◌, refl, ◌≢◌, ◌⊎◌, ℕ, eqb, if◌then◌else◌}
use Rattle.std.proofs.Common.{sym, ◌∙◌, ap, inl, inr, eq-eqb, ne_eqb}
use Rattle.std.proofs.Math.Path.{fun_ext}
use Rattle.base.specs.Sums.{same?}
use Rattle.room.specs.declared.Room.{Room}

unfoldable pub changed : (ℕ → Room) → ℕ → Room → ℕ → Room
changed rooms x r c = if eqb c x then r else rooms c

module _ (rooms : ℕ → Room) (x : ℕ) (r : Room) where
  pub changed-same : changed rooms x r x ≡ r
  unfolding changed
  changed-same = simp (eq-eqb x x refl)

  pub changed-other : (c : ℕ) → c ≢ x → changed rooms x r c ≡ rooms c
  unfolding changed
  changed-other c h = simp (ne_eqb c x h)

  -- whatever record room x has, the others are the same
  pub changed-elsewhere : (s : Room) (c : ℕ) → c ≢ x → changed rooms x r c ≡ changed rooms x s c
  unfolding changed
  changed-elsewhere s c h = simp (ne_eqb c x h)

  -- rooms that are r at x, and as before elsewhere, are these
  pub changed-is : (now : ℕ → Room) → now x ≡ r → ((c : ℕ) → c ≢ x → now c ≡ rooms c) → changed rooms x r ≡ now
  changed-is now here there = fun_ext λ c. go c (same? c x)
    where
      go : (c : ℕ) → (c ≡ x) ⊎ (c ≢ x) → changed rooms x r c ≡ now c
      go c (inl e) = ap (λ (c : ℕ). changed rooms x r c) e ∙ changed-same ∙ sym here ∙ sym (ap now e)
      go c (inr e) = changed-other c e ∙ sym (there c e)
