-- "A line of another form, or a longer one, answers 2": no line of more than 7 bytes is of a known form, so one of more than 64 is none.
use Rattle.std.proofs.Common.{◌≡◌, ℕ, suc, ◌+◌, ◌<◌, ◌≤◌, ◌⊎◌, inl, inr, eqb, List, [], ◌∷◌, None, length, refl, arith}
use Rattle.base.specs.Choice.{split}
use Rattle.base.specs.Sums.{below?}
use Rattle.reading.proofs.Spaces.{no_ask, no_delivery}
use Rattle.reading.specs.Lines.{number_of, mode_of, before, behind, fresh_command, own_command, ask_command, deliver_command, order, command_of}

-- text of more than two bytes is no number and no mode
no_number_lem : (xs : List ℕ) → 2 < length xs → number_of xs ≡ None
unfolding number_of
no_number_lem [] h = refl
no_number_lem (a ∷ []) h = absurd (omega arith)
no_number_lem (a ∷ b ∷ []) h = absurd (omega arith)
no_number_lem (a ∷ b ∷ c ∷ xs) h = refl

no_mode : (xs : List ℕ) → 2 < length xs → mode_of xs ≡ None
unfolding mode_of
no_mode [] h = refl
no_mode (a ∷ []) h = absurd (omega arith)
no_mode (a ∷ b ∷ []) h = absurd (omega arith)
no_mode (a ∷ b ∷ c ∷ xs) h = refl

-- what stands before the first space and behind it, and the space, are all
parts : (xs : List ℕ) → length xs ≤ length (before xs) + suc (length (behind xs))
unfolding before behind
parts [] = omega arith
parts (b ∷ bs) = split (eqb b 32) (λ p. rw p (omega arith)) (λ p. rw p (omega (arith, parts bs)))

-- so more than five bytes have more than two on one side
side : (xs : List ℕ) → 5 < length xs → (2 < length (before xs)) ⊎ (2 < length (behind xs))
side xs h = go (below? 2 (length (before xs)))
  where
    go : (2 < length (before xs)) ⊎ (length (before xs) ≤ 2) → (2 < length (before xs)) ⊎ (2 < length (behind xs))
    go (inl b) = inl b
    go (inr b) = inr (omega (arith, parts xs))

module _ (xs : List ℕ) (h : 5 < length xs) where
  asks-other : ask_command (number_of (before xs)) (mode_of (behind xs)) ≡ None
  unfolding ask_command
  asks-other = go (side xs h)
    where
      go : (2 < length (before xs)) ⊎ (2 < length (behind xs)) → ask_command (number_of (before xs)) (mode_of (behind xs)) ≡ None
      go (inl b) = rw (no_number_lem (before xs) b)
      go (inr b) = no_ask _ _ (no_mode (behind xs) b)

  delivers-other : deliver_command (number_of (before xs)) (number_of (behind xs)) ≡ None
  unfolding deliver_command
  delivers-other = go (side xs h)
    where
      go : (2 < length (before xs)) ⊎ (2 < length (behind xs)) → deliver_command (number_of (before xs)) (number_of (behind xs)) ≡ None
      go (inl b) = rw (no_number_lem (before xs) b)
      go (inr b) = no_delivery _ _ (no_number_lem (behind xs) b)

  order_other : (letter : ℕ) → order letter xs ≡ None
  unfolding order fresh_command own_command
  order_other letter =
      rw (no_number_lem xs (omega arith), asks-other, delivers-other)
      (split (eqb letter 110) (λ n. rw n) (λ n. split (eqb letter 117) (λ u. rw (n, u)) (λ u. split (eqb letter 104) (λ k. rw (n, u, k))
      (λ k. split (eqb letter 97) (λ a. rw (n, u, k, a)) (λ a. split (eqb letter 100) (λ d. rw (n, u, k, a, d)) (λ d. rw (n, u, k, a, d)))))))

pub long-other : (line : List ℕ) → 7 < length line → command_of line ≡ None
unfolding command_of
long-other [] h = refl
long-other (a ∷ []) h = refl
long-other (a ∷ s ∷ xs) h = split (eqb s 32) (λ p. rw p (order_other xs (omega (arith, h)) a)) (λ p. rw p)
