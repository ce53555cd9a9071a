-- Tests of the places of an array, as a chain and `==` make them, are tests of the numbers below its length.
use mathlib.Core.Path.{◌≡◌, refl, ◌∙◌, ap}
use mathlib.Core.Bool.{Bool, true, false, ◌&&◌}
use mathlib.Core.List.{List, [], ◌∷◌}
use Prim.Native.Nat.{ℕ, zero, suc, ◌+◌, ◌<◌}
use native.Mathlib.Omega.{arith}
use lib.ListN.{length, get_or, replicate}
use lib.Pointwise.{pointwise}
use mir.Val.{bool_byte}
use Rattle.std.specs.List.{list_all, enumerate_from}
use Rattle.std.proofs.lemmas.Bool.Decides.{nat_tests}
use Rattle.base.specs.Sums.{one}
use Rattle.base.specs.Below.{all_below}

-- a test as a number, as the language converts one
pub byte-is : (b : Bool) → bool_byte b ≡ one b
byte-is true = refl
byte-is false = refl

-- two tests that agree below n
pub all_same : (n : ℕ) (f g : ℕ → Bool) → ((c : ℕ) → c < n → f c ≡ g c) → all_below n f ≡ all_below n g
all_same zero f g h = refl
all_same (suc n) f g h = rw (h n (omega arith), all_same n f g (λ c l. h c (omega arith)))

-- the first number before the others
pub all-first : (n : ℕ) (f : ℕ → Bool) → all_below (suc n) f ≡ (f 0 && all_below n (λ j. f (suc j)))
all-first zero f = refl
all-first (suc n) f = grind (arith, nat_tests, all-first n f)

module _ {A : Type 0} (d : A) where
  -- of each element with its place
  placed : (f : ℕ → A → Bool) (xs : List A) (k : ℕ)
      → list_all (λ p. f p.0 p.1) (enumerate_from k xs) ≡ all_below (length xs) (λ j. f (k + j) (get_or xs j d))
  placed f [] k = refl
  placed f (x ∷ xs) k =
      rw (all-first, placed f xs (k + 1))
      (ap (λ i. f i x && all_below (length xs) (λ j. f (k + 1 + j) (get_or xs j d))) (omega arith)
      ∙ ap (λ b. f (k + 0) x && b)
      (all_same
      (length xs)
      (λ j. f (k + 1 + j) (get_or xs j d))
      (λ j. f (k + suc j) (get_or xs j d))
      (λ j h. ap (λ i. f i (get_or xs j d)) (omega arith))))

  pub all-placed : (f : ℕ → A → Bool) (xs : List A) (n : ℕ) → length xs ≡ n
      → list_all (λ p. f p.0 p.1) (enumerate_from 0 xs) ≡ all_below n (λ j. f j (get_or xs j d))
  all-placed f xs n h =
      rw (← h)
      (placed f xs 0
      ∙ all_same
      (length xs)
      (λ j. f (0 + j) (get_or xs j d))
      (λ j. f j (get_or xs j d))
      (λ j l. ap (λ i. f i (get_or xs j d)) (omega arith)))

  -- of each element against one
  alike : (E : A → A → Bool) (y : A) (xs : List A) → pointwise E xs (replicate (length xs) y) ≡ all_below (length xs) (λ j. E (get_or xs j d) y)
  alike E y [] = refl
  alike E y (x ∷ xs) = rw (all-first, alike E y xs)

  pub all-alike : (E : A → A → Bool) (y : A) (xs : List A) (n : ℕ) → length xs ≡ n
      → pointwise E xs (replicate n y) ≡ all_below n (λ j. E (get_or xs j d) y)
  all-alike E y xs n h = rw (← h) (alike E y xs)
