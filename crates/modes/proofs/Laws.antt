-- Laws of the modes, over plain numbers. A fact of the table is one test that is computed over all codes, pairs or triples of codes.
use mathlib.Core.Path.{◌≡◌, refl, sym, ◌∙◌}
use mathlib.Core.Logic.{◌≢◌, ⊎_elim}
use mathlib.Core.Bool.{Bool, true, false, not, ◌&&◌, beq, and-true, and-false, false≢true}
use mathlib.Core.List.{List, [], ◌∷◌}
use Prim.Native.Nat.{ℕ, ◌≤◌, ◌<◌}
use native.Mathlib.Omega.{arith}
use lib.Dec.{ltb, leb, eqb}
use lib.ListN.{get_or}
use borrow.Author.Tests.{ltb-true, ltb-false, leb-true, eqb-true, not-true, lt-ltb, le-ltb, le-leb, lt-leb, ne_eqb}
use Rattle.base.specs.Choice.{split}
use Rattle.base.specs.Tests.{◌implies◌, and_left, and_right, and_both, implies-use, implies-show, same-use, or-use, clash}
use Rattle.base.specs.Below.{all_below, all_pairs, all_triples, all-at, all_of, pairs-at, triples-at}
use Rattle.modes.specs.Codes.{none, IR, R, U, IW, W, codes, is_code}
use Rattle.modes.specs.Modes.{rows, agrees, is_stronger, can_lend, loans, is_listed, lend_list}
use Rattle.modes.specs.Under.{under, small}

-- Tests computed over the codes

-- "p gives q" of each code, of each pair or of each triple of codes: a computed test shows it, and it holds at any codes
code-rule : (p q : ℕ → Bool) → all_below codes (λ a. p a implies q a) ≡ true → (a : ℕ) → a < 6 → p a ≡ true → q a ≡ true
code-rule p q t a h = implies-use (p a) (q a) (all-at codes (λ a. p a implies q a) t a h)

pair-rule : (p q : ℕ → ℕ → Bool) → all_pairs codes (λ a b. p a b implies q a b) ≡ true → (a b : ℕ) → (a < 6) × (b < 6)
    → p a b ≡ true → q a b ≡ true
pair-rule p q t a b h = implies-use (p a b) (q a b) (pairs-at codes (λ a b. p a b implies q a b) t a b h.0 h.1)

triple-rule : (p q : ℕ → ℕ → ℕ → Bool) → all_triples codes (λ a b c. p a b c implies q a b c) ≡ true → (a b c : ℕ) → (a < 6) × (b < 6) × (c < 6)
    → p a b c ≡ true → q a b c ≡ true
triple-rule p q t a b c h =
    implies-use (p a b c) (q a b c) (triples-at codes (λ a b c. p a b c implies q a b c) t a b c h.0 h.1 h.2)

-- two tests that only codes pass are the same if they are the same on all pairs of codes
same-pairs : (p q : ℕ → ℕ → Bool) → all_pairs codes (λ a b. beq (p a b) (q a b)) ≡ true
    → ((a b : ℕ) → p a b ≡ true → (a < 6) × (b < 6)) → ((a b : ℕ) → q a b ≡ true → (a < 6) × (b < 6)) → (a b : ℕ) → p a b ≡ q a b
same-pairs p q t p-codes q-codes a b =
    split (p a b)
    (λ h. inside (p-codes a b h))
    (λ h. split (q a b) (λ k. inside (q-codes a b k)) (λ k. h ∙ sym k))
  where
    inside : (a < 6) × (b < 6) → p a b ≡ q a b
    inside c = same-use (p a b) (q a b) (pairs-at codes (λ a b. beq (p a b) (q a b)) t a b c.0 c.1)

-- Codes

module _ (m : ℕ) where
  pub code-low : m < 6 → true ≡ is_code m
  code-low h = sym (le-leb m 5 (omega arith))

  pub code-high : 6 ≤ m → false ≡ is_code m
  code-high h = sym (lt-leb m 5 (omega arith))

-- Stronger

module _ (a b : ℕ) where
  -- stronger means the larger code
  pub stronger-larger : ltb b a ≡ is_stronger a b
  unfolding is_stronger
  stronger-larger = refl

  pub stronger-true : is_stronger a b ≡ true → b < a
  unfolding is_stronger
  stronger-true = ltb-true b a

  pub stronger-false : is_stronger a b ≡ false → a ≤ b
  unfolding is_stronger
  stronger-false = ltb-false b a

-- Agreement

module _ (a b : ℕ) where
  -- a code past 5 agrees with nothing
  pub past-agrees : 5 < a → agrees a b ≡ false
  unfolding agrees
  past-agrees h = simp (le-ltb a 6 h)

  pub agrees-past : 5 < b → agrees a b ≡ false
  unfolding agrees
  agrees-past h = simp (le-ltb b 6 h, and-false)

  -- two codes agree where the table says so
  pub agrees-table : a < 6 → b < 6 → get_or (get_or rows a []) b false ≡ agrees a b
  unfolding agrees
  agrees-table h k = simp (lt-ltb a 6 h, lt-ltb b 6 k)

  -- only codes agree
  pub agrees-codes : agrees a b ≡ true → (a < 6) × (b < 6)
  unfolding agrees
  agrees-codes h =
      let inside = and_left (ltb a 6 && ltb b 6) _ h in
      (ltb-true a 6 (and_left _ _ inside), ltb-true b 6 (and_right (ltb a 6) _ inside))

-- the table of conflicts is symmetric
pub agrees-sym : (a b : ℕ) → agrees a b ≡ agrees b a
unfolding agrees
agrees-sym = same-pairs agrees (λ a b. agrees b a) refl agrees-codes (λ a b h. let c = agrees-codes b a h in (c.1, c.0))

-- none agrees with all
pub none-agrees : (b : ℕ) → b < 6 → agrees none b ≡ true
unfolding agrees
none-agrees = all-at codes (agrees none) refl

pub agrees-none : (a : ℕ) → a < 6 → agrees a none ≡ true
agrees-none a h = agrees-sym a none ∙ none-agrees a h

-- nothing but none agrees with W
pub agrees-W : (m : ℕ) → 1 ≤ m → agrees m W ≡ false
unfolding agrees
agrees-W m h =
    split (agrees m W)
    (λ g. absurd (omega (arith, leb-true m 0 (code-rule (λ m. agrees m W) (λ m. leb m none) refl m (agrees-codes m W g).0 g))))
    (λ g. g)

-- The lend rule

module _ (a m : ℕ) where
  -- none is no loan, and a code past 5 is not lent
  pub lends_none : m ≡ 0 → can_lend a m ≡ false
  unfolding can_lend
  lends_none h = rw h

  pub lends-past : 5 < m → can_lend a m ≡ false
  unfolding can_lend
  lends-past h = simp (lt-leb m 5 h, and-false)

  -- nothing stronger than the lender is lent
  pub lends-stronger : (s : Bool) → s ≡ is_stronger m a → s ≡ true → can_lend a m ≡ false
  unfolding can_lend
  lends-stronger s e h = simp (sym e ∙ h, and-false)

  -- any other mode is lent where it agrees with the lender
  pub lends-other : (m ≡ 0 → ⊥) → m < 6 → (s : Bool) → s ≡ is_stronger m a → s ≡ false
      → (g : Bool) → g ≡ agrees a m → g ≡ can_lend a m
  unfolding can_lend
  lends-other some code s e h g k = simp (le-leb 1 m (omega arith), le-leb m 5 (omega arith), sym e ∙ h, and-true) k

  -- a loan is some mode, it agrees with its lender, and it is not stronger
  pub lends_some : can_lend a m ≡ true → 1 ≤ m
  unfolding can_lend
  lends_some h = leb-true 1 m (and_left (leb 1 m) (leb m 5) (and_left _ (agrees a m) (and_left _ (not (is_stronger m a)) h)))

  pub lends-agrees : can_lend a m ≡ true → agrees a m ≡ true
  unfolding can_lend
  lends-agrees h = and_right (leb 1 m && leb m 5) (agrees a m) (and_left _ (not (is_stronger m a)) h)

  pub lends-le : can_lend a m ≡ true → m ≤ a
  unfolding can_lend
  lends-le h = stronger-false m a (not-true (is_stronger m a) (and_right (leb 1 m && leb m 5 && agrees a m) _ h))

  -- only codes lend, and only codes are lent
  pub lends-codes : can_lend a m ≡ true → (a < 6) × (m < 6)
  lends-codes h = agrees-codes a m (lends-agrees h)

-- whatever all pairs of a list pass, a listed pair passes
all_listed : (ℕ → ℕ → Bool) → List (ℕ × ℕ) → Bool
all_listed f [] = true
all_listed f (loan ∷ others) = f loan.0 loan.1 && all_listed f others

listed-passes : (f : ℕ → ℕ → Bool) (l : List (ℕ × ℕ)) → all_listed f l ≡ true → (a m : ℕ) → is_listed a m l ≡ true → f a m ≡ true
unfolding all_listed is_listed
listed-passes f [] t a m h = absurd (false≢true h)
listed-passes f (loan ∷ others) t a m h =
    ⊎_elim
    (λ e. rw (eqb-true a loan.0 (and_left _ _ e), eqb-true m loan.1 (and_right (eqb a loan.0) _ e)) (and_left _ _ t))
    (listed-passes f others (and_right (f loan.0 loan.1) _ t) a m)
    (or-use (eqb a loan.0 && eqb m loan.1) _ h)

listed-codes : (a m : ℕ) → lend_list a m ≡ true → (a < 6) × (m < 6)
unfolding lend_list all_listed
listed-codes a m h =
    let c = listed-passes (λ a m. ltb a 6 && ltb m 6) loans refl a m h in
    (ltb-true a 6 (and_left _ _ c), ltb-true m 6 (and_right (ltb a 6) _ c))

-- a can lend m exactly where the list of loans has the two
pub lends-listed : (a m : ℕ) → can_lend a m ≡ lend_list a m
unfolding can_lend is_stronger agrees lend_list is_listed
lends-listed = same-pairs can_lend lend_list refl lends-codes listed-codes

-- Modes under modes

-- whatever agrees with o agrees with all that is under o, said from either side
pub under-agree : (x o m : ℕ) → under x o ≡ true → agrees o m ≡ true → agrees x m ≡ true
unfolding under
under-agree x o m s g =
    implies-use (agrees o m) _ (all-at codes (λ m. agrees o m implies agrees x m) s m (agrees-codes o m g).1) g

pub agrees-under : (x o m : ℕ) → under x o ≡ true → agrees m o ≡ true → agrees m x ≡ true
agrees-under x o m s g = agrees-sym m x ∙ under-agree x o m s (agrees-sym o m ∙ g)

-- and that is all that "under" says
pub under-show : (x o : ℕ) → ((m : ℕ) → agrees o m ≡ true → agrees x m ≡ true) → under x o ≡ true
unfolding under
under-show x o f = all_of codes (λ m. agrees o m implies agrees x m) (λ m h. implies-show _ _ (f m))

-- what is under a code is a code
pub under-code : (x o : ℕ) → o < 6 → under x o ≡ true → x < 6
under-code x o h s = (agrees-codes x none (under-agree x o none s (agrees-none o h))).0

-- each mode is under itself, and under what those above it are under; none is under everything
pub under-refl : (x : ℕ) → under x x ≡ true
under-refl x = under-show x x (λ m g. g)

pub under-trans : (x y z : ℕ) → under x y ≡ true → under y z ≡ true → under x z ≡ true
under-trans x y z s t = under-show x z (λ m g. under-agree x y m s (under-agree y z m t g))

pub none-under : (o : ℕ) → under none o ≡ true
none-under o = under-show none o (λ m g. none-agrees m (agrees-codes o m g).1)

-- IR is under every mode but none
pub IR-under : (o : ℕ) → 1 ≤ o → under IR o ≡ true
unfolding agrees
IR-under o h =
    under-show IR o λ m g.
    pair-rule (λ o m. leb 1 o && agrees o m) (λ o m. agrees IR m) refl o m (agrees-codes o m g) (and_both _ _ (le-leb 1 o h) g)

-- of two modes that agree the weaker is under the other
pub weaker-under : (a b : ℕ) → agrees a b ≡ true → a ≤ b → under a b ≡ true
unfolding agrees under
weaker-under a b g h =
    pair-rule (λ a b. agrees a b && leb a b) under refl a b (agrees-codes a b g) (and_both _ _ g (le-leb a b h))

-- a loan is under its lender
pub lends-under : (a m : ℕ) → can_lend a m ≡ true → under m a ≡ true
lends-under a m h = weaker-under m a (agrees-sym m a ∙ lends-agrees a m h) (lends-le a m h)

-- what agrees with o and is not lent by it finds o at none, IR or R
pub not-lent-low : (o m : ℕ) → 1 ≤ m → agrees o m ≡ true → can_lend o m ≡ false → o ≤ R
unfolding can_lend is_stronger agrees
not-lent-low o m h g k =
    leb-true o R
    (pair-rule (λ o m. leb 1 m && agrees o m && not (can_lend o m)) (λ o m. leb o R) refl o m (agrees-codes o m g)
    (and_both _ _ (and_both _ _ (le-leb 1 m h) g) (rw k)))

-- Small modes

-- a small mode is a code
pub small-code : (o : ℕ) → small o ≡ true → o < 6
unfolding small
small-code o h = split (ltb o 6) (ltb-true o 6) (λ k. past (ltb-false o 6 k))
  where
    past : 6 ≤ o → o < 6
    past p = clash h (simp (ne_eqb o none (omega arith), ne_eqb o IR (omega arith), ne_eqb o R (omega arith), ne_eqb o IW (omega arith)))

-- the small modes are the codes but U and W: none, IR, R and IW
pub small-weak : (o : ℕ) → small o ≡ true → (o ≢ U) × (o ≢ W)
unfolding small
small-weak o h = (λ e. absurd (false≢true (rw e at h)), λ e. absurd (false≢true (rw e at h)))

pub weak-small : (o : ℕ) → o ≤ W → o ≢ U → o ≢ W → small o ≡ true
unfolding small
weak-small o code u w =
    code-rule (λ o. not (eqb o U) && not (eqb o W)) small refl o (omega arith) (rw (ne_eqb o U u, ne_eqb o W w) refl)

pub low_small : (o : ℕ) → o ≤ R → small o ≡ true
low_small o h = weak-small o (omega arith) (λ e. omega arith) (λ e. omega arith)

-- a loan is small; with `lends_some`: it is IR, R or IW
pub lends-small : (a m : ℕ) → can_lend a m ≡ true → small m ≡ true
unfolding can_lend is_stronger agrees small
lends-small a m h = pair-rule can_lend (λ a m. small m) refl a m (lends-codes a m h) h

-- every small mode but none lends IR
pub small-lends-IR : (o : ℕ) → small o ≡ true → 1 ≤ o → can_lend o IR ≡ true
unfolding can_lend is_stronger agrees small
small-lends-IR o h k =
    code-rule (λ o. small o && leb 1 o) (λ o. can_lend o IR) refl o (small-code o h) (and_both _ _ h (le-leb 1 o k))

-- two modes under the same small mode agree
pub under-small-agree : (x y o : ℕ) → small o ≡ true → under x o ≡ true → under y o ≡ true → agrees x y ≡ true
unfolding agrees under small
under-small-agree x y o h s t =
    let code = small-code o h in
    triple-rule (λ x y o. small o && under x o && under y o) (λ x y o. agrees x y) refl x y o (under-code x o code s, under-code y o code t, code)
    (and_both _ _ (and_both _ _ h s) t)

-- a small mode under a lender is under each of its loans but IR
pub small-under-loan : (o m e : ℕ) → can_lend o m ≡ true → m ≢ IR → small e ≡ true → under e o ≡ true → under e m ≡ true
unfolding can_lend is_stronger agrees under small
small-under-loan o m e can other h u =
    triple-rule (λ o m e. can_lend o m && not (eqb m IR) && small e && under e o) (λ o m e. under e m) refl o m e
    ((lends-codes o m can).0, (lends-codes o m can).1, small-code e h)
    (and_both _ _ (and_both _ _ (and_both _ _ can (rw (ne_eqb m IR other))) h) u)

-- what is under a small mode and is not that mode is none or IR, and weaker
pub under-small-falls : (a b : ℕ) → small b ≡ true → under a b ≡ true → (a ≡ b → ⊥) → (a ≤ IR) × (a < b)
unfolding agrees under small
under-small-falls a b h s differ = (leb-true a IR (and_left _ _ both), ltb-true a b (and_right (leb a IR) _ both))
  where
    code : b < 6
    code = small-code b h

    both : (leb a IR && ltb a b) ≡ true
    both =
        pair-rule (λ a b. small b && under a b && not (eqb a b)) (λ a b. leb a IR && ltb a b) refl a b (under-code a b code s, code)
        (and_both _ _ (and_both _ _ h s) (rw (ne_eqb a b differ)))
