-- Lists of messages and of places in a queue: weights, counts, membership, and a list without one element.
use Rattle.std.specs.Prelude.{◌≡◌, ◌⊎◌, Bool, true, length, get_or, take, drop}
use Rattle.std.proofs.Math.Path.{refl, ap}
use Rattle.std.proofs.Common.{inl, inr, not-suc-le-zero, le_of_suc-le-suc, add-one, take-suc}
use mathlib.Core.List.Memᴰ
use mathlib.Core.List.{List, [], ◌∷◌, ◌++◌, Memᴰ}
use Prim.Native.Nat.{ℕ, zero, suc, ◌+◌, ◌≤◌, ◌<◌}
use native.Mathlib.Omega.{arith}
use Rattle.base.specs.Choice.{split}
use Rattle.base.specs.Sums.{one, one-le, sum, sum-add, sum_bound}

module _ {A : Type 0} where
  -- the total of a weight
  unfoldable pub total : (A → ℕ) → List A → ℕ
  total f [] = zero
  total f (x ∷ xs) = f x + total f xs

  pub total-append : (f : A → ℕ) (a b : List A) → total f (a ++ b) ≡ total f a + total f b
  unfolding total
  total-append f [] b = omega arith
  total-append f (x ∷ a) b = omega (arith, total-append f a b)

  pub total-snoc : (f : A → ℕ) (a : List A) (x : A) → total f (a ++ (x ∷ [])) ≡ total f a + f x
  unfolding total
  total-snoc f a x = omega (arith, total-append f a (x ∷ []))

  -- as a loop makes it: the first i elements, and one more
  pub total-none : (f : A → ℕ) (l : List A) → total f (take 0 l) ≡ 0
  unfolding total
  total-none f l = refl

  pub total-more : (f : A → ℕ) (l : List A) (i : ℕ) (d : A) → i < length l → total f (take (i + 1) l) ≡ total f (take i l) + f (get_or l i d)
  total-more f l i d h = rw (add-one, take-suc l i d) (total-snoc f (take i l) (get_or l i d))

  -- how many elements pass a test
  abbrev pub count : (A → Bool) → List A → ℕ
  count p l = total (λ x. one (p x)) l

  pub count-le : (p : A → Bool) (l : List A) → count p l ≤ length l
  unfolding total
  count-le p [] = omega arith
  count-le p (x ∷ l) = omega (arith, count-le p l, one-le (p x))

  -- without the element at i
  unfoldable pub remove : ℕ → List A → List A
  remove i [] = []
  remove zero (x ∷ xs) = xs
  remove (suc i) (x ∷ xs) = x ∷ remove i xs

  pub total-remove : (f : A → ℕ) (l : List A) (i : ℕ) (d : A) → i < length l → total f (remove i l) + f (get_or l i d) ≡ total f l
  unfolding total remove
  total-remove f [] i d h = absurd (not-suc-le-zero h)
  total-remove f (x ∷ l) zero d h = omega arith
  total-remove f (x ∷ l) (suc i) d h = omega (arith, total-remove f l i d (le_of_suc-le-suc h))

  pub length-remove : (l : List A) (i : ℕ) → i < length l → length (remove i l) + 1 ≡ length l
  unfolding remove
  length-remove [] i h = absurd (not-suc-le-zero h)
  length-remove (x ∷ l) zero h = omega arith
  length-remove (x ∷ l) (suc i) h = omega (arith, length-remove l i (le_of_suc-le-suc h))

  -- "for every message" is (m : A) → Mem m l → P m
  abbrev pub Mem : A → List A → Type 0
  Mem a l = Memᴰ a l

  pub mem-remove : (i : ℕ) (l : List A) {a : A} → Mem a (remove i l) → Mem a l
  unfolding remove
  mem-remove i [] h = h
  mem-remove zero (x ∷ l) h = Memᴰ.tail h
  mem-remove (suc i) (x ∷ l) {a} h = go (mem-remove i l) (Memᴰ.cases_cons h)
    where
      go : (Mem a (remove i l) → Mem a l) → (a ≡ x) ⊎ Mem a (remove i l) → Mem a (x ∷ l)
      go r (inl e) = Memᴰ.head e
      go r (inr m) = Memᴰ.tail (r m)

  pub mem-snoc : (l : List A) (x : A) {a : A} → Mem a (l ++ (x ∷ [])) → Mem a l ⊎ (a ≡ x)
  mem-snoc l x {a} h = go (Memᴰ.append_cases l h)
    where
      go : Mem a l ⊎ Mem a (x ∷ []) → Mem a l ⊎ (a ≡ x)
      go (inl m) = inl m
      go (inr m) = inr (Memᴰ.eq_of_singleton m)

  pub mem-at : (l : List A) (i : ℕ) (d : A) → i < length l → Mem (get_or l i d) l
  mem-at [] i d h = absurd (not-suc-le-zero h)
  mem-at (x ∷ l) zero d h = Memᴰ.head refl
  mem-at (x ∷ l) (suc i) d h = Memᴰ.tail (mem-at l i d (le_of_suc-le-suc h))

  pub mem-total : (f : A → ℕ) {a : A} {l : List A} → Mem a l → f a ≤ total f l
  unfolding total
  mem-total f (Memᴰ.head {x = x} e) = omega (arith, ap f e)
  mem-total f (Memᴰ.tail m) = omega (arith, mem-total f m)

  -- where the count is not zero some element passes the test
  pub count-found : (p : A → Bool) (l : List A) → 1 ≤ count p l → (a : A) × Mem a l × (p a ≡ true)
  unfolding total
  count-found p [] h = absurd (omega arith)
  count-found p (x ∷ l) h =
      split (p x)
      (λ q. (x, Memᴰ.head refl, q))
      (λ q. let f = count-found p l (omega (arith, ap one q)) in (f.0, Memᴰ.tail f.1, f.2))

  -- what stands before place i, and what stands behind it
  pub remove-split : (i : ℕ) (l : List A) → remove i l ≡ take i l ++ drop (suc i) l
  unfolding remove
  remove-split zero [] = refl
  remove-split (suc i) [] = refl
  remove-split zero (x ∷ l) = refl
  remove-split (suc i) (x ∷ l) = ap (λ (t : List A). x ∷ t) (remove-split i l)

  -- a member stands at some place
  pub mem-place : (l : List A) (d a : A) → Mem a l → (i : ℕ) × (i < length l) × (a ≡ get_or l i d)
  mem-place [] d a h = absurd (Memᴰ.not-nil h)
  mem-place (x ∷ l) d a h = go (mem-place l d a) (Memᴰ.cases_cons h)
    where
      go : (Mem a l → (i : ℕ) × (i < length l) × (a ≡ get_or l i d)) → (a ≡ x) ⊎ Mem a l
          → (i : ℕ) × (i < suc (length l)) × (a ≡ get_or (x ∷ l) i d)
      go r (inl e) = (zero, omega arith, e)
      go r (inr m) = let p = r m in (suc p.0, omega (arith, p.1), p.2)

  -- weights that are equal on the members have the same total
  pub total-cong : (f g : A → ℕ) (l : List A) → ((x : A) → Mem x l → f x ≡ g x) → total f l ≡ total g l
  unfolding total
  total-cong f g [] h = refl
  total-cong f g (x ∷ l) h = omega (arith, h x (Memᴰ.head refl), total-cong f g l (λ y m. h y (Memᴰ.tail m)))

  -- the total of 1 is the length
  pub total-one : (l : List A) → total (λ x. 1) l ≡ length l
  unfolding total
  total-one [] = refl
  total-one (x ∷ l) = omega (arith, total-one l)

  -- a sum of totals is the total of the sums
  pub sum-total : (n : ℕ) (f : ℕ → A → ℕ) (l : List A) → sum n (λ c. total (f c) l) ≡ total (λ x. sum n (λ c. f c x)) l
  unfolding total
  sum-total n f [] = none n
    where
      none : (m : ℕ) → sum m (λ c. 0) ≡ 0
      none m = omega (arith, sum_bound m 0 (λ c. 0) (λ c h. omega arith))
  sum-total n f (x ∷ l) = omega (arith, sum-add n (λ c. f c x) (λ c. total (f c) l), sum-total n f l)
