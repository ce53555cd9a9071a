-- An array of which the first places are in use: the test of all its places, as facts of the list in use and of the filler.
use Rattle.std.specs.Prelude.{◌≡◌, Bool, true, List, ℕ, ◌≤◌, ◌<◌, get_or, take, if◌then◌else◌}
use Rattle.std.proofs.Common.{◌∙◌, ap, arith, get_or-take, ltb-true, ltb-false, lt-ltb, le-ltb}
use Rattle.std.proofs.Math.Dec.{ltb}
use Rattle.std.proofs.Math.ListN.{length}
use Rattle.std.proofs.Math.Seq.{length-take-le}
use Rattle.base.specs.Choice.{by-test}
use Rattle.base.specs.Below.{all_below, all-at, all_of}
use Rattle.base.specs.Lists.{Mem, mem-at, mem-place}
use Rattle.base.specs.Arrays.{padded, padded-high, padded-of}

-- An array with k places, of which the first c are in use: one test for those, another for the rest.
unfoldable pub places : {A : Type 0} → ℕ → A → List A → ℕ → (A → Bool) → (A → Bool) → Bool
places k d l c fine blank = all_below k (λ i. if ltb i c then fine (get_or l i d) else blank (get_or l i d))

module _ {A : Type 0} (k : ℕ) (d : A) (l : List A) (c : ℕ) (fine blank : A → Bool) (long : length l ≡ k) (low : c ≤ k) where
  module _ (h : places k d l c fine blank ≡ true) where
    at_place : (i : ℕ) → i < k → (if ltb i c then fine (get_or l i d) else blank (get_or l i d)) ≡ true
    unfolding places
    at_place i b = all-at k (λ i. if ltb i c then fine (get_or l i d) else blank (get_or l i d)) h i b

    used : (i : ℕ) → i < c → fine (get_or l i d) ≡ true
    used i b = rw (lt-ltb i c b) at (at_place i (omega arith))

    unused : (i : ℕ) → c ≤ i → i < k → blank (get_or l i d) ≡ true
    unused i b a = rw (le-ltb i c b) at (at_place i a)

    -- each member of the list in use passes its test
    pub used-member : (a : A) → Mem a (take c l) → fine a ≡ true
    used-member a m =
        let p = mem-place (take c l) d a m in
        let b : p.0 < c = omega (arith, p.1, length-take-le c l (omega arith)) in
        rw (p.2, get_or-take c l p.0 d b) (used p.0 b)

    -- the rest is the filler
    pub used-padded : ((a : A) → blank a ≡ true → a ≡ d) → l ≡ padded k d (take c l)
    used-padded is = padded-of k d l c long low (λ i b a. is (get_or l i d) (unused i b a))

  -- the test from what is so of the members, and from the filler
  pub places-test : ((a : A) → Mem a (take c l) → fine a ≡ true) → l ≡ padded k d (take c l) → ((a : A) → a ≡ d → blank a ≡ true)
      → places k d l c fine blank ≡ true
  unfolding places
  places-test f p is =
      all_of k (λ i. if ltb i c then fine (get_or l i d) else blank (get_or l i d)) λ i h.
      by-test (λ (b : Bool). b ≡ true) (ltb i c) (fine (get_or l i d)) (blank (get_or l i d))
      (λ e. front i (ltb-true i c e))
      (λ e. is (get_or l i d) (back i (ltb-false i c e)))
    where
      size : length (take c l) ≡ c
      size = length-take-le c l (omega arith)

      front : (i : ℕ) → i < c → fine (get_or l i d) ≡ true
      front i h = rw (get_or-take c l i d h) at (f (get_or (take c l) i d) (mem-at (take c l) i d (omega (arith, size))))

      back : (i : ℕ) → c ≤ i → get_or l i d ≡ d
      back i h = ap (λ (l : List A). get_or l i d) p ∙ padded-high k d (take c l) i (omega (arith, size))
