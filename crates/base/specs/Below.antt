-- A test of every number below n, and its meaning at each number. Whatever is about n rooms is stated through it, once over n.
use Rattle.std.specs.Prelude.{◌≡◌, refl, Bool, true, false, ◌&&◌, ◌⊎◌, ℕ, zero, suc, ◌+◌, ◌<◌}
use Rattle.std.proofs.Math.Path.{subst⁻¹}
use Rattle.std.proofs.Math.Bool.{and-false}
use Rattle.std.proofs.Common.{inl, inr, ⊎_elim, le_of_suc-le-suc, not-suc-le-zero, eq-or-lt_of_le, add-one, arith}
use Rattle.base.specs.Choice.{split}
use Rattle.base.specs.Tests.{and_left, and_right, and_both}

abbrev pub all_below : ℕ → (ℕ → Bool) → Bool
all_below zero f = true
all_below (suc n) f = f n && all_below n f

pub all-at : (n : ℕ) (f : ℕ → Bool) → all_below n f ≡ true → (k : ℕ) → k < n → f k ≡ true
all-at zero f t k h = absurd (not-suc-le-zero h)
all-at (suc n) f t k h =
    ⊎_elim (λ e. subst⁻¹ (λ (m : ℕ). f m ≡ true) e (and_left (f n) (all_below n f) t))
    (λ l. all-at n f (and_right (f n) (all_below n f) t) k l)
    (eq-or-lt_of_le (le_of_suc-le-suc h))

pub all_of : (n : ℕ) (f : ℕ → Bool) → ((k : ℕ) → k < n → f k ≡ true) → all_below n f ≡ true
all_of zero f h = refl
all_of (suc n) f h = and_both (f n) (all_below n f) (h n (omega arith)) (all_of n f (λ k l. h k (omega arith)))

-- as a loop makes it: one number more, or a number that fails
pub all_more : (f : ℕ → Bool) (i : ℕ) → all_below i f ≡ true → f i ≡ true → all_below (i + 1) f ≡ true
all_more f i p q = rw (add-one, q) p

pub all-fails : (f : ℕ → Bool) (n i : ℕ) → i < n → f i ≡ false → all_below n f ≡ false
all-fails f zero i h q = absurd (not-suc-le-zero h)
all-fails f (suc n) i h q =
    ⊎_elim (λ e. rw (← e, q)) (λ l. rw (all-fails f n i l q) (and-false (f n))) (eq-or-lt_of_le (le_of_suc-le-suc h))

-- some number below n passes a test, or none does
pub some_or_none : (n : ℕ) (p : ℕ → Bool) → ((i : ℕ) × (i < n) × (p i ≡ true)) ⊎ ((i : ℕ) → i < n → p i ≡ false)
some_or_none zero p = inr (λ i h. absurd (not-suc-le-zero h))
some_or_none (suc n) p = split (p n) (λ q. inl (n, omega arith, q)) (λ q. go q (some_or_none n p))
  where
    go : p n ≡ false → ((i : ℕ) × (i < n) × (p i ≡ true)) ⊎ ((i : ℕ) → i < n → p i ≡ false)
        → ((i : ℕ) × (i < suc n) × (p i ≡ true)) ⊎ ((i : ℕ) → i < suc n → p i ≡ false)
    go q (inl (i, h, s)) = inl (i, omega arith, s)
    go q (inr f) = inr (λ i h. ⊎_elim (λ e. subst⁻¹ (λ (m : ℕ). p m ≡ false) e q) (f i) (eq-or-lt_of_le (le_of_suc-le-suc h)))

-- a test of all pairs and of all triples of numbers below n, for tables of codes
abbrev pub all_pairs : ℕ → (ℕ → ℕ → Bool) → Bool
all_pairs n f = all_below n (λ a. all_below n (f a))

pub pairs-at : (n : ℕ) (f : ℕ → ℕ → Bool) → all_pairs n f ≡ true → (a b : ℕ) → a < n → b < n → f a b ≡ true
pairs-at n f t a b ha hb = all-at n (f a) (all-at n (λ x. all_below n (f x)) t a ha) b hb

abbrev pub all_triples : ℕ → (ℕ → ℕ → ℕ → Bool) → Bool
all_triples n f = all_below n (λ a. all_pairs n (f a))

pub triples-at : (n : ℕ) (f : ℕ → ℕ → ℕ → Bool) → all_triples n f ≡ true → (a b c : ℕ) → a < n → b < n → c < n → f a b c ≡ true
triples-at n f t a b c ha hb hc = pairs-at n (f a) (all-at n (λ x. all_pairs n (f x)) t a ha) b c hb hc
