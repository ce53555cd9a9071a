-- A list folded from its front: one element more at its end, or one less in it.
use Rattle.std.specs.Prelude.{◌≡◌, length, get_or}
use Rattle.std.proofs.Math.Path.{refl, ap}
use Rattle.std.proofs.Common.{sym, ◌∙◌, not-suc-le-zero, le_of_suc-le-suc, arith}
use mathlib.Core.List.Memᴰ
use mathlib.Core.List.{List, [], ◌∷◌, ◌++◌}
use Prim.Native.Nat.{ℕ, zero, suc, ◌<◌}
use Rattle.base.specs.Lists.{Mem, remove}

module _ {A B : Type 0} (f : A → B → A) where
  unfoldable pub folds : A → List B → A
  folds a [] = a
  folds a (x ∷ xs) = folds (f a x) xs

  pub folds-append : (a : A) (xs ys : List B) → folds a (xs ++ ys) ≡ folds (folds a xs) ys
  unfolding folds
  folds-append a [] ys = refl
  folds-append a (x ∷ xs) ys = folds-append (f a x) xs ys

  pub folds-snoc : (a : A) (xs : List B) (y : B) → folds a (xs ++ (y ∷ [])) ≡ f (folds a xs) y
  unfolding folds
  folds-snoc a xs y = folds-append a xs (y ∷ [])

  -- an element that changes nothing may be left out
  pub folds-skip : (l : List B) (k : ℕ) (d : B) → k < length l → ((a : A) → f a (get_or l k d) ≡ a) → (a : A) → folds a (remove k l) ≡ folds a l
  unfolding folds remove
  folds-skip [] k d h s a = refl
  folds-skip (x ∷ l) zero d h s a = ap (λ (b : A). folds b l) (sym (s a))
  folds-skip (x ∷ l) (suc k) d h s a = folds-skip l k d (le_of_suc-le-suc h) s (f a x)

  -- the first element that changes something may come before all others
  pub folds-first : (l : List B) (k : ℕ) (d : B) → k < length l → ((j : ℕ) → j < k → (a : A) → f a (get_or l j d) ≡ a)
      → (a : A) → folds (f a (get_or l k d)) (remove k l) ≡ folds a l
  unfolding folds remove
  folds-first [] k d h s a = absurd (not-suc-le-zero h)
  folds-first (x ∷ l) zero d h s a = refl
  folds-first (x ∷ l) (suc k) d h s a =
      ap (λ (b : A). folds b (remove k l)) (s zero (omega arith) (f a (get_or l k d)))
      ∙ folds-first l k d (le_of_suc-le-suc h) (λ j b. s (suc j) (omega arith)) a ∙ ap (λ (b : A). folds b l) (sym (s zero (omega arith) a))

  -- a value that no element changes
  pub folds-still : (a : A) (l : List B) → ((x : B) → Mem x l → f a x ≡ a) → folds a l ≡ a
  unfolding folds
  folds-still a [] s = refl
  folds-still a (x ∷ l) s = ap (λ (b : A). folds b l) (s x (Memᴰ.head refl)) ∙ folds-still a l (λ y m. s y (Memᴰ.tail m))
