-- Sums and counts over the numbers below n: "exactly one" and "at most n" are said by them, once over n.
use Rattle.std.specs.Prelude.{◌≡◌, refl, ◌≢◌, ◌⊎◌, Bool, true, false, ℕ, zero, suc, ◌+◌, ◌*◌, ◌≤◌, ◌<◌, eqb, ltb, if◌then◌else◌}
use Rattle.std.proofs.Common.{sym, ◌∙◌, ap, inl, inr, zero-le, not-suc-le-zero, add-one, arith, eqb-true, ltb-true, ltb-false, eq-eqb, ne_eqb}
use Rattle.std.proofs.lemmas.Bool.{eqb-false}
use Rattle.base.specs.Choice.{by-test}

-- two numbers are equal or not, and one is below the other or not
pub same? : (a b : ℕ) → (a ≡ b) ⊎ (a ≢ b)
same? a b = go (eqb a b) refl
  where
    go : (t : Bool) → eqb a b ≡ t → (a ≡ b) ⊎ (a ≢ b)
    go true e = inl (eqb-true a b e)
    go false e = inr (eqb-false a b e)

pub below? : (a b : ℕ) → (a < b) ⊎ (b ≤ a)
below? a b = go (ltb a b) refl
  where
    go : (t : Bool) → ltb a b ≡ t → (a < b) ⊎ (b ≤ a)
    go true e = inl (ltb-true a b e)
    go false e = inr (ltb-false a b e)

-- 1 where the test holds, else 0
abbrev pub one : Bool → ℕ
one true = 1
one false = 0

pub one-le : (b : Bool) → one b ≤ 1
one-le true = omega arith
one-le false = omega arith

-- the sum of f below n
unfoldable pub sum : ℕ → (ℕ → ℕ) → ℕ
sum zero f = zero
sum (suc n) f = f n + sum n f

-- as a loop makes it
pub sum-none : (f : ℕ → ℕ) → sum 0 f ≡ 0
unfolding sum
sum-none f = refl

pub sum_more : (n : ℕ) (f : ℕ → ℕ) → sum (n + 1) f ≡ sum n f + f n
unfolding sum
sum_more n f = rw add-one (omega arith)

pub sum-cong : (n : ℕ) (f g : ℕ → ℕ) → ((i : ℕ) → i < n → f i ≡ g i) → sum n f ≡ sum n g
unfolding sum
sum-cong zero f g h = refl
sum-cong (suc n) f g h = omega (arith, sum-cong n f g (λ i l. h i (omega arith)), h n (omega arith))

pub sum-le : (n : ℕ) (f g : ℕ → ℕ) → ((i : ℕ) → i < n → f i ≤ g i) → sum n f ≤ sum n g
unfolding sum
sum-le zero f g h = zero-le
sum-le (suc n) f g h = omega (arith, sum-le n f g (λ i l. h i (omega arith)), h n (omega arith))

pub sum_bound : (n b : ℕ) (f : ℕ → ℕ) → ((i : ℕ) → i < n → f i ≤ b) → sum n f ≤ n * b
unfolding sum
sum_bound zero b f h = zero-le
sum_bound (suc n) b f h = omega (arith, sum_bound n b f (λ i l. h i (omega arith)), h n (omega arith))

-- the sum of a sum of two
pub sum-add : (n : ℕ) (f g : ℕ → ℕ) → sum n (λ i. f i + g i) ≡ sum n f + sum n g
unfolding sum
sum-add zero f g = refl
sum-add (suc n) f g = omega (arith, sum-add n f g)

-- f and g differ at most at the point i
pub sum-differ : (n : ℕ) (f g : ℕ → ℕ) (i : ℕ) → i < n → ((j : ℕ) → j < n → j ≢ i → f j ≡ g j) → sum n g + f i ≡ sum n f + g i
unfolding sum
sum-differ zero f g i h d = absurd (not-suc-le-zero h)
sum-differ (suc n) f g i h d = go (same? n i) (λ l. sum-differ n f g i l (λ j k. d j (omega arith)))
  where
    go : (n ≡ i) ⊎ (n ≢ i) → (i < n → sum n g + f i ≡ sum n f + g i) → g n + sum n g + f i ≡ f n + sum n f + g i
    go (inl e) r = rw (← e) (omega (arith, sum-cong n f g (λ j l. d j (omega arith) (omega arith))))
    go (inr e) r = omega (arith, r (omega arith), d n (omega arith) e)

-- a term is at most the sum
pub sum-at : (n : ℕ) (f : ℕ → ℕ) (i : ℕ) → i < n → f i ≤ sum n f
unfolding sum
sum-at zero f i h = absurd (not-suc-le-zero h)
sum-at (suc n) f i h = go (same? n i) (λ l. sum-at n f i l)
  where
    go : (n ≡ i) ⊎ (n ≢ i) → (i < n → f i ≤ sum n f) → f i ≤ f n + sum n f
    go (inl e) r = rw e (omega arith)
    go (inr e) r = omega (arith, r (omega arith))

-- how many numbers below n pass a test
abbrev pub count_below : ℕ → (ℕ → Bool) → ℕ
count_below n p = sum n (λ i. one (p i))

pub count-below-le : (n : ℕ) (p : ℕ → Bool) → count_below n p ≤ n
count-below-le n p = omega (arith, sum_bound n 1 (λ i. one (p i)) (λ i l. one-le (p i)))

-- among the numbers below n each is there once
pub sum-hit : (n x : ℕ) → x < n → sum n (λ c. one (eqb x c)) ≡ 1
sum-hit n x h = omega (
  arith,
  sum-differ n (λ c. 0) (λ c. one (eqb x c)) x h (λ j l ne. sym (ap one (ne_eqb x j (λ e. ne (sym e))))),
  sum_bound n 0 (λ c. 0) (λ c k. omega arith),
  ap one (eq-eqb x x refl),
)

-- n terms of at most 1, one of them 0
pub sum-short : (n : ℕ) (f : ℕ → ℕ) (c : ℕ) → c < n → ((i : ℕ) → i < n → f i ≤ 1) → f c ≡ 0 → sum n f < n
sum-short n f c h low z = omega (
  arith,
  sum-differ n f (λ i. if eqb i c then 1 else f i) c h (λ j l ne. sym (simp (ne_eqb j c ne))),
  sum_bound n 1 (λ i. if eqb i c then 1 else f i) bound,
  here,
)
  where
    here : (if eqb c c then 1 else f c) ≡ 1
    here = simp (eq-eqb c c refl)

    bound : (i : ℕ) → i < n → (if eqb i c then 1 else f i) ≤ 1
    bound i l = by-test (λ (m : ℕ). m ≤ 1) (eqb i c) 1 (f i) (λ e. omega arith) (λ e. low i l)

-- two terms are at most the sum
pub sum-two : (n : ℕ) (f : ℕ → ℕ) (i j : ℕ) → i < n → j < n → i ≢ j → f i + f j ≤ sum n f
unfolding sum
sum-two zero f i j h k ne = absurd (not-suc-le-zero h)
sum-two (suc n) f i j h k ne = go (same? n i) (same? n j) (λ p q. sum-two n f i j p q ne)
  where
    go : (n ≡ i) ⊎ (n ≢ i) → (n ≡ j) ⊎ (n ≢ j) → (i < n → j < n → f i + f j ≤ sum n f) → f i + f j ≤ f n + sum n f
    go (inl p) (inl q) r = absurd (ne (sym p ∙ q))
    go (inl p) (inr q) r = rw (← p) (omega (arith, sum-at n f j (omega arith)))
    go (inr p) (inl q) r = rw (← q) (omega (arith, sum-at n f i (omega arith)))
    go (inr p) (inr q) r = omega (arith, r (omega arith) (omega arith))
