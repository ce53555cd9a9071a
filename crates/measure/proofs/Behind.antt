-- Which messages stand behind a TOKEN on its own wire.
use Rattle.std.specs.Prelude.{◌≡◌, ◌⊎◌, Bool, true, false, ◌||◌, List, [], ◌∷◌, ◌≤◌}
use Rattle.std.proofs.Common.{sym, ◌∙◌, ap, inl, inr, ⊎_elim, arith}
use mathlib.Core.List.Memᴰ
use Rattle.base.specs.Choice.{split}
use Rattle.base.specs.Tests.{or-use, or_left, or_right, clash}
use Rattle.base.specs.Sums.{one}
use Rattle.base.specs.Folds.{folds}
use Rattle.base.specs.Lists.{total, Mem}
use Rattle.table.specs.declared.Wire.{Wire}
use Rattle.table.specs.Oldest.{between}
use Rattle.table.specs.Formed.{is_token}
use Rattle.ledger.proofs.Frames.{same-wire, sender-is, receiver-is}
use Rattle.measure.specs.Measure.{tokens_in, follow}

module _ (behind : Wire → Bool) (w : Wire) where
  -- only a TOKEN puts messages behind it
  pub follow-other : is_token w.message ≡ false → follow behind w ≡ behind
  unfolding follow
  follow-other e = simp e

  pub follow-token : (v : Wire) → is_token w.message ≡ true → follow behind w v ≡ (behind v || between w.«from» w.to v)
  unfolding follow
  follow-token v e = simp e

  -- what stands behind one stays there
  follow-stays : (v : Wire) → behind v ≡ true → follow behind w v ≡ true
  follow-stays v h =
      split (is_token w.message) (λ e. follow-token v e ∙ or_left (behind v) (between w.«from» w.to v) h)
      (λ e. ap (λ (f : Wire → Bool). f v) (follow-other e) ∙ h)

  -- a message of another wire is not put behind
  pub follow-aside : (v : Wire) → behind v ≡ false → between v.«from» v.to w ≡ false → follow behind w v ≡ false
  follow-aside v h apart = split (follow behind w v) (λ e. absurd (never e)) (λ e. e)
    where
      never : follow behind w v ≡ true → ⊥
      never e =
          split (is_token w.message)
          (λ t.
          ⊎_elim (λ q. clash q h)
          (λ q. clash
          (same-wire v.«from» v.to w (sym (sender-is w.«from» w.to v q)) (sym (receiver-is w.«from» w.to v q))) apart)
          (or-use (behind v) (between w.«from» w.to v) (sym (follow-token v t) ∙ e)))
          (λ t. clash (sym (ap (λ (f : Wire → Bool). f v) (follow-other t)) ∙ e) h)

-- behind a list of messages

behind-stays : (l : List Wire) (behind : Wire → Bool) (x : Wire) → behind x ≡ true → folds follow behind l x ≡ true
unfolding folds
behind-stays [] behind x h = h
behind-stays (w ∷ l) behind x h = behind-stays l (follow behind w) x (follow-stays behind w x h)

-- a message on the wire of a TOKEN of the list
pub behind-there : (l : List Wire) (behind : Wire → Bool) (x w : Wire) → Mem w l → is_token w.message ≡ true
    → between w.«from» w.to x ≡ true → folds follow behind l x ≡ true
unfolding folds
behind-there [] behind x w i t on = absurd (Memᴰ.not-nil i)
behind-there (v ∷ l) behind x w i t on =
    ⊎_elim
    (λ e. behind-stays l (follow behind v) x
    (rw (← e) (follow-token behind w x t ∙ or_right (behind x) (between w.«from» w.to x) on)))
    (λ j. behind-there l (follow behind v) x w j t on) (Memᴰ.cases_cons i)

-- there is a TOKEN to stand behind
pub behind-some : (l : List Wire) (behind : Wire → Bool) (x : Wire) → folds follow behind l x ≡ true → (behind x ≡ true) ⊎ (1 ≤ tokens_in l)
unfolding folds total
behind-some [] behind x h = inl h
behind-some (w ∷ l) behind x h =
    split (is_token w.message)
    (λ t. inr (omega (arith, ap one t)))
    (λ t.
    ⊎_elim (λ q. inl (sym (ap (λ (f : Wire → Bool). f x) (follow-other behind w t)) ∙ q)) (λ q. inr (omega (arith, q)))
    (behind-some l (follow behind w) x h))
