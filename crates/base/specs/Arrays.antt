-- A list kept in an array with a count in use: the places past it have one filler.
use Rattle.std.specs.Prelude.{◌≡◌, refl, ◌⊎◌, get_or}
use Rattle.std.proofs.Common.{sym, ◌∙◌, inl, inr, add-one, get_or-take, get_or-append-add, ext_get_or, length-take-le, take-suc-set}
use Rattle.std.proofs.Math.Path.{ap}
use mathlib.Core.List.{List, [], ◌∷◌, ◌++◌, append_assoc}
use Prim.Native.Nat.{ℕ, zero, suc, ◌+◌, ◌-◌, ◌≤◌, ◌<◌}
use native.Mathlib.Omega.{arith}
use Rattle.std.proofs.Math.ListN.{length, set, take, replicate, length-append, get_or-append}
use Rattle.std.proofs.lemmas.List.{length-replicate, replicate-append-replicate}
use Rattle.base.specs.Sums.{below?}
use Rattle.std.proofs.Math.Seq.{take_at, take-append-add, set-append_seam}

module _ {A : Type 0} where
  -- a list laid into an array of k places
  unfoldable pub padded : ℕ → A → List A → List A
  padded k d l = l ++ replicate (k - length l) d

  module _ (k : ℕ) (d : A) (l : List A) where
    pub padded-take : take (length l) (padded k d l) ≡ l
    unfolding padded
    padded-take = take_at l (replicate (k - length l) d) (length l) refl-length
      where
        refl-length : length l ≡ length l
        refl-length = omega arith

    pub padded-length : length l ≤ k → length (padded k d l) ≡ k
    unfolding padded
    padded-length h = simp (length-append, length-replicate) (omega arith)

    pub padded-low : (i : ℕ) → i < length l → get_or (padded k d l) i d ≡ get_or l i d
    unfolding padded
    padded-low i h = get_or-append l (replicate (k - length l) d) d i h

    -- one more element, stored behind those in use
    pub padded-snoc : (x : A) → length l < k → set (padded k d l) (length l) x ≡ padded k d (l ++ (x ∷ []))
    unfolding padded
    padded-snoc x h =
        let more : k - length l ≡ suc (k - suc (length l)) = omega arith in
        let next : length (l ++ (x ∷ [])) ≡ suc (length l) = simp length-append (omega arith) in
        ap (λ (j : ℕ). set (l ++ replicate j d) (length l) x) more ∙ set-append_seam l d (replicate (k - suc (length l)) d) x
        ∙ rw next (simp append_assoc)

  -- the same, said of an array whose places past n are filler
  pub padded-set : (k : ℕ) (d : A) (xs : List A) (n : ℕ) (x : A) → n < length xs → n < k → xs ≡ padded k d (take n xs)
      → set xs n x ≡ padded k d (take (n + 1) (set xs n x))
  padded-set k d xs n x h low e =
      let kept : length (take n xs) ≡ n = length-take-le n xs (omega arith) in
      ap (λ (l : List A). set l n x) e ∙ ap (λ (j : ℕ). set (padded k d (take n xs)) j x) (sym kept)
      ∙ padded-snoc k d (take n xs) x (omega arith) ∙ ap (padded k d) (rw add-one (sym (take-suc-set xs n x h)))

  -- an array that a list was laid into has room for it
  pub padded-fits : (k : ℕ) (d : A) (l : List A) → length (padded k d l) ≡ k → length l ≤ k
  unfolding padded
  padded-fits k d l e = omega (arith, simp (length-append, length-replicate) at e)

  -- an array of fewer places, where they are enough
  pub padded-short : (k j : ℕ) (d : A) (l : List A) → length l ≤ k → k ≤ j → take k (padded j d l) ≡ padded k d l
  unfolding padded
  padded-short k j d l h m =
      let all : k ≡ length l + (k - length l) = omega arith in
      let parts : j - length l ≡ (k - length l) + (j - k) = omega arith in
      ap (λ (n : ℕ). take n (l ++ replicate (j - length l) d)) all ∙ take-append-add l (replicate (j - length l) d) (k - length l)
      ∙ ap (λ (n : ℕ). l ++ take (k - length l) (replicate n d)) parts
      ∙ ap (λ (r : List A). l ++ take (k - length l) r) (sym (replicate-append-replicate (k - length l) (j - k) d))
      ∙ ap (λ (r : List A). l ++ r) (take_at (replicate (k - length l) d) (replicate (j - k) d) (k - length l) (length-replicate (k - length l) d))

  -- past the list an array has the filler
  pub padded-high : (k : ℕ) (d : A) (l : List A) (i : ℕ) → length l ≤ i → get_or (padded k d l) i d ≡ d
  unfolding padded
  padded-high k d l i h =
      rw (at-end) (get_or-append-add l (replicate (k - length l) d) (i - length l) d ∙ fill (k - length l) (i - length l))
    where
      at-end : i ≡ length l + (i - length l)
      at-end = omega arith

      fill : (m j : ℕ) → get_or (replicate m d) j d ≡ d
      fill zero j = refl
      fill (suc m) zero = refl
      fill (suc m) (suc j) = fill m j

  -- an array whose places from c on have the filler is its first c places, laid out
  pub padded-of : (k : ℕ) (d : A) (l : List A) (c : ℕ) → length l ≡ k → c ≤ k → ((i : ℕ) → c ≤ i → i < k → get_or l i d ≡ d)
      → l ≡ padded k d (take c l)
  padded-of k d l c long low fill =
      ext_get_or d l (padded k d (take c l)) (long ∙ sym (padded-length k d (take c l) (omega (arith, size))))
      (λ i h. go i h (below? i c))
    where
      size : length (take c l) ≡ c
      size = length-take-le c l (omega arith)

      go : (i : ℕ) → i < length l → (i < c) ⊎ (c ≤ i) → get_or l i d ≡ get_or (padded k d (take c l)) i d
      go i h (inl b) = sym (padded-low k d (take c l) i (omega (arith, size)) ∙ get_or-take c l i d b)
      go i h (inr b) = fill i b (omega arith) ∙ sym (padded-high k d (take c l) i (omega (arith, size)))
