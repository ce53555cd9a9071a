-- Laws of the sum over the messages: one message more, one less, another share, another flag, other heights.
use Rattle.std.specs.Prelude.{◌≡◌, ◌⊎◌, Bool, length, get_or}
use Rattle.std.proofs.Math.Path.{refl}
use Rattle.std.proofs.Common.{sym, ◌∙◌, ap, not-suc-le-zero, le_of_suc-le-suc}
use Rattle.std.proofs.Math.Logic.{inl, inr, ⊎_elim}
use Rattle.std.proofs.Math.Bool.{true, false}
use mathlib.Core.List.{List, [], ◌∷◌, ◌++◌}
use Prim.Native.Nat.{ℕ, zero, suc, ◌+◌, ◌≤◌, ◌<◌}
use native.Mathlib.Omega.{arith}
use Rattle.base.specs.Choice.{split}
use Rattle.base.specs.Tests.{or-use, or_left, or_right, clash}
use Rattle.base.specs.Sums.{one}
use Rattle.base.specs.Folds.{folds}
use Rattle.base.specs.Ranks.{rerooted, rerooted-here, rerooted-le}
use Rattle.base.specs.Lists.{total, remove}
use Rattle.table.specs.declared.Wire.{Wire}
use Rattle.table.specs.declared.Message.{Message}
use Rattle.table.specs.declared.Message.TheVariants as msg
use Rattle.table.specs.Tables.{no_wire}
use Rattle.table.specs.Oldest.{between}
use Rattle.table.specs.Formed.{is_token}
use Rattle.facts.specs.Wires.{wire}
use Rattle.ledger.proofs.Frames.{receiver-is}
use Rattle.facts.specs.Names.{is_request}
use Rattle.bounds.proofs.Weights.{requests}
use Rattle.measure.specs.Measure.{charge, follow, above, extra, pile}
use Rattle.measure.proofs.Behind.{follow-other, follow-token, follow-aside}

-- What a message costs.

charge-share : (share more : ℕ) (m : Message) → charge (share + 1) more m ≡ charge share more m + one (is_request m)
unfolding charge is_request
charge-share share more msg.Nothing = omega arith
charge-share share more (msg.Request o m idle) = omega arith
charge-share share more (msg.Grant m l) = omega arith
charge-share share more (msg.Token m rest l) = omega arith
charge-share share more (msg.Reduce l m) = omega arith

charge-extra : (share more most : ℕ) (m : Message) → most ≤ more + 1 → charge share most m ≤ charge share more m + one (is_request m)
unfolding charge is_request
charge-extra share more most msg.Nothing h = omega arith
charge-extra share more most (msg.Request o m idle) h = omega arith
charge-extra share more most (msg.Grant m l) h = omega arith
charge-extra share more most (msg.Token m rest l) h = omega arith
charge-extra share more most (msg.Reduce l m) h = omega arith

charge-le : (share more most : ℕ) (m : Message) → more ≤ most → charge share more m ≤ charge share most m
unfolding charge
charge-le share more most msg.Nothing h = omega arith
charge-le share more most (msg.Request o m idle) h = omega arith
charge-le share more most (msg.Grant m l) h = omega arith
charge-le share more most (msg.Token m rest l) h = omega arith
charge-le share more most (msg.Reduce l m) h = omega arith

-- The laws.

module _ (height : ℕ → ℕ) (share flag : ℕ) where
  pub pile-share : (behind : Wire → Bool) (l : List Wire) → pile height (share + 1) flag behind l ≡ pile height share flag behind l + requests l
  unfolding pile total
  pile-share behind [] = omega arith
  pile-share behind (w ∷ l) =
      omega (arith, charge-share share (extra height flag behind w) w.message, pile-share (follow behind w) l)

  pub pile-flag : (behind : Wire → Bool) (l : List Wire) → pile height share (flag + 1) behind l ≤ pile height share flag behind l + requests l
  unfolding pile total above
  pile-flag behind [] = omega arith
  pile-flag behind (w ∷ l) = omega (
    arith,
    charge-extra share (extra height flag behind w) (extra height (flag + 1) behind w) w.message (raised (behind w)),
    pile-flag (follow behind w) l,
  )
    where
      raised : (b : Bool) → above b (height w.to) (flag + 1) ≤ above b (height w.to) flag + 1
      raised true = omega arith
      raised false = omega arith

  -- more messages, at the end
  pub pile-append : (behind : Wire → Bool) (l more : List Wire)
      → pile height share flag behind (l ++ more) ≡ pile height share flag behind l + pile height share flag (folds follow behind l) more
  unfolding pile folds
  pile-append behind [] more = omega arith
  pile-append behind (w ∷ l) more = omega (arith, pile-append (follow behind w) l more)

  pub pile-sent : (behind : Wire → Bool) (l : List Wire) (x : Wire)
      → pile height share flag behind (l ++ (x ∷ [])) ≡ pile height share flag behind l + charge share (extra height flag (folds follow behind l) x) x.message
  unfolding pile
  pile-sent behind l x = omega (arith, pile-append behind l (x ∷ []))

  -- the oldest message of its wire is taken off: nothing stands behind it for that
  pub pile-taken : (l : List Wire) (behind : Wire → Bool) (k a y : ℕ) (m : Message) → k < length l → get_or l k no_wire ≡ wire a y m
      → is_token m ≡ false → behind (wire a y m) ≡ false → ((j : ℕ) → j < k → between a y (get_or l j no_wire) ≡ false)
      → pile height share flag behind (remove k l) + charge share (above false (height y) flag) m ≡ pile height share flag behind l
  unfolding pile remove
  pile-taken [] behind k a y m low there other free first = absurd (not-suc-le-zero low)
  pile-taken (w ∷ l) behind zero a y m low there other free first =
      rw (there, follow-other behind (wire a y m) other, free) (omega arith)
  pile-taken (w ∷ l) behind (suc k) a y m low there other free first = omega (
    arith,
    pile-taken l (follow behind w) k a y m (le_of_suc-le-suc low) there other
        (follow-aside behind w (wire a y m) free (first zero (omega arith))) (λ j h. first (suc j) (omega arith)),
  )

-- Heights re-rooted at the receiver of a TOKEN.
module _ (height : ℕ → ℕ) (share me : ℕ) where
  -- every message that stood behind a TOKEN still does, or goes to the bottom
  abbrev Freed : (Wire → Bool) → (Wire → Bool) → Type 0
  Freed less more = (w : Wire) → more w ≡ true → (less w ≡ true) ⊎ (w.to ≡ me)

  extra-lowered : (less more : Wire → Bool) (w : Wire) → Freed less more → extra (rerooted me height) 0 less w ≤ extra height 1 more w
  unfolding above
  extra-lowered less more w freed = go (less w) (more w) refl refl
    where
      low : rerooted me height w.to ≤ height w.to + 1
      low = rerooted-le me height w.to

      go : (a b : Bool) → less w ≡ a → more w ≡ b → above a (rerooted me height w.to) 0 ≤ above b (height w.to) 1
      go true true p q = omega (arith, low)
      go true false p q = omega (arith, low)
      go false true p q =
          ⊎_elim (λ h. clash h p) (λ h. omega (arith, ap (λ (c : ℕ). rerooted me height c) h, rerooted-here me height)) (freed w q)
      go false false p q = omega (arith, low)

  freed-follow : (less more : Wire → Bool) (w : Wire) → Freed less more → Freed (follow less w) (follow more w)
  freed-follow less more w freed v h =
      split (is_token w.message)
      (λ t.
      ⊎_elim
      (λ q. ⊎_elim (λ e. inl (follow-token less w v t ∙ or_left (less v) (between w.«from» w.to v) e)) (λ e. inr e) (freed v q))
      (λ q. inl (follow-token less w v t ∙ or_right (less v) (between w.«from» w.to v) q))
      (or-use (more v) (between w.«from» w.to v) (sym (follow-token more w v t) ∙ h)))
      (λ t.
      ⊎_elim (λ e. inl (ap (λ (f : Wire → Bool). f v) (follow-other less w t) ∙ e)) (λ e. inr e)
      (freed v (sym (ap (λ (f : Wire → Bool). f v) (follow-other more w t)) ∙ h)))

  pile-lowered : (l : List Wire) (less more : Wire → Bool) → Freed less more
      → pile (rerooted me height) share 0 less l ≤ pile height share 1 more l
  unfolding pile
  pile-lowered [] less more freed = omega arith
  pile-lowered (w ∷ l) less more freed = omega (
    arith,
    charge-le share (extra (rerooted me height) 0 less w) (extra height 1 more w) w.message (extra-lowered less more w freed),
    pile-lowered l (follow less w) (follow more w) (freed-follow less more w freed),
  )

  -- the only TOKEN is taken off
  pub pile-token-taken : (l : List Wire) (behind : Wire → Bool) (k a m rest r : ℕ) → k < length l
      → get_or l k no_wire ≡ wire a me (msg.Token m rest r)
      → pile (rerooted me height) share 0 behind (remove k l) + 2 ≤ pile height share 1 behind l
  unfolding pile remove charge is_token
  pile-token-taken [] behind k a m rest r low there = absurd (not-suc-le-zero low)
  pile-token-taken (w ∷ l) behind zero a m rest r low there =
      rw there (omega (arith, pile-lowered l behind (follow behind (wire a me (msg.Token m rest r))) freed))
    where
      freed : Freed behind (follow behind (wire a me (msg.Token m rest r)))
      freed v h =
          ⊎_elim (λ e. inl e) (λ e. inr (receiver-is a me v e))
          (or-use (behind v) (between a me v) (sym (follow-token behind (wire a me (msg.Token m rest r)) v refl) ∙ h))
  pile-token-taken (w ∷ l) behind (suc k) a m rest r low there = omega (
    arith,
    charge-le share (extra (rerooted me height) 0 behind w) (extra height 1 behind w) w.message
        (extra-lowered behind behind w (λ v h. inl h)),
    pile-token-taken l (follow behind w) k a m rest r (le_of_suc-le-suc low) there,
  )
