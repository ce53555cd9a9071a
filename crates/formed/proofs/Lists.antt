-- Tests of the places of arrays, those in use and those that are not, and counts of the first numbers.
use mathlib.Core.Path.{◌≡◌, refl, sym, ◌∙◌, ap}
use mathlib.Core.Logic.{◌⊎◌, inl, inr}
use mathlib.Core.Bool.{Bool, true, false, ◌&&◌, and_assoc}
use mathlib.Core.List.{List, [], ◌∷◌}
use Prim.Native.Nat.{ℕ, zero, suc, ◌≤◌, ◌<◌, zero-le}
use native.Mathlib.Omega.{arith}
use lib.ListN.{length, get_or, take, drop}
use lib.Dec.{ltb}
use borrow.Author.Tests.{lt-ltb, le-ltb}
use Rattle.std.specs.Prelude.{if◌then◌else◌}
use Rattle.std.specs.List.{list_all, zip}
use Rattle.std.proofs.lemmas.Bool.Decides.{nat_tests}
use Rattle.base.specs.Below.{all_below, all_of}
use Rattle.base.specs.Sums.{one, sum, count_below, below?}
use Rattle.records.proofs.Lists.{all-first, all_same}

-- a test of the pairs of two arrays, of which the first n are in use, with fillers that pass it
module _ {A B : Type 0} (f : A → B → Bool) (d : A) (e : B) (fills : f d e ≡ true) where
  pub all-paired : (xs : List A) (ys : List B) → length xs ≡ length ys → (n : ℕ)
      → list_all (λ p. f p.0 p.1) (take n (zip xs ys)) ≡ all_below n (λ c. f (get_or xs c d) (get_or ys c e))
  all-paired xs ys h zero = refl
  all-paired [] [] h (suc n) = sym (all_of (suc n) (λ c. f d e) (λ c l. fills))
  all-paired [] (y ∷ ys) h (suc n) = absurd (omega arith)
  all-paired (x ∷ xs) [] h (suc n) = absurd (omega arith)
  all-paired (x ∷ xs) (y ∷ ys) h (suc n) = rw (all-first, all-paired xs ys (omega arith) n)

-- one test of the places in use, which are the first k, and another of the others
module _ {A : Type 0} (f g : A → Bool) (d : A) where
  parted : (l : List A) (k : ℕ) → k ≤ length l
      → all_below (length l) (λ i. if ltb i k then f (get_or l i d) else g (get_or l i d)) ≡ (list_all f (take k l) && list_all g (drop k l))
  parted [] zero h = refl
  parted [] (suc k) h = absurd (omega arith)
  parted (x ∷ l) zero h =
      all-first (length l) (λ i. if ltb i 0 then f (get_or (x ∷ l) i d) else g (get_or (x ∷ l) i d))
      ∙ ap (λ b. g x && b)
      (all_same
      (length l)
      (λ i. if ltb (suc i) 0 then f (get_or l i d) else g (get_or l i d))
      (λ i. if ltb i 0 then f (get_or l i d) else g (get_or l i d))
      (λ i l. simp (le-ltb (suc i) 0 zero-le, le-ltb i 0 zero-le))
      ∙ parted l zero (omega arith))
  parted (x ∷ l) (suc k) h =
      all-first (length l) (λ i. if ltb i (suc k) then f (get_or (x ∷ l) i d) else g (get_or (x ∷ l) i d))
      ∙ simp (lt-ltb 0 (suc k) (omega arith))
      (ap (λ b. f x && b)
      (all_same
      (length l)
      (λ i. if ltb (suc i) (suc k) then f (get_or l i d) else g (get_or l i d))
      (λ i. if ltb i k then f (get_or l i d) else g (get_or l i d))
      (λ i l. grind (arith, nat_tests))
      ∙ parted l k (omega arith))
      ∙ sym (and_assoc (f x) (list_all f (take k l)) (list_all g (drop k l))))

  pub all-parted : (l : List A) (n : ℕ) → length l ≡ n → (k : ℕ) → k ≤ n
      → all_below n (λ i. if ltb i k then f (get_or l i d) else g (get_or l i d)) ≡ (list_all f (take k l) && list_all g (drop k l))
  all-parted l n long k h = rw (← long) (parted l k (rw long h))

-- numbers from n on that fail a test do not count
pub count_past : (m n : ℕ) (f : ℕ → Bool) → n ≤ m → ((c : ℕ) → n ≤ c → c < m → f c ≡ false) → count_below m f ≡ count_below n f
unfolding sum
count_past zero n f l h = let e : n ≡ 0 = omega arith in rw e
count_past (suc m) n f l h = go (below? m n) (λ k. count_past m n f k (λ c a b. h c a (omega arith)))
  where
    go : (m < n) ⊎ (n ≤ m) → (n ≤ m → count_below m f ≡ count_below n f) → count_below (suc m) f ≡ count_below n f
    go (inl k) r = let e : n ≡ suc m = omega arith in rw e
    go (inr k) r = omega (arith, r k, ap one (h m k (omega arith)))
