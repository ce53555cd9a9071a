-- What a change of one room's record, and a message on one wire, leave as they were.
use Rattle.std.specs.Prelude.{◌≡◌, refl, ◌≢◌, true, false, ℕ, eqb}
use Rattle.std.proofs.Common.{sym, ◌∙◌, ap, ⊎_elim, eqb-true, eq-eqb, ne_eqb}
use Rattle.std.proofs.Math.Bool.{and-false}
use Rattle.base.specs.Choice.{by-test}
use Rattle.base.specs.Tests.{and_left, and_right, and_both}
use Rattle.base.specs.Sums.{same?}
use Rattle.room.specs.declared.Room.{Room}
use Rattle.table.specs.declared.Wire.{Wire}
use Rattle.table.specs.declared.Message.{Message}
use Rattle.table.specs.Oldest.{between}
use Rattle.ledger.specs.Loans.{arriving}

-- what is read off the changed record as off the old one is read alike off every room
module _ (old new : ℕ → Room) (me : ℕ) (others : (c : ℕ) → c ≢ me → new c ≡ old c) where
  pub alike : {A : Type 0} (f : Room → A) → f (new me) ≡ f (old me) → (c : ℕ) → f (new c) ≡ f (old c)
  alike f h c =
      ⊎_elim (λ e. ap (λ (k : ℕ). f (new k)) e ∙ h ∙ sym (ap (λ (k : ℕ). f (old k)) e)) (λ e. ap f (others c e)) (same? c me)

-- a message of another wire
module _ (x y : ℕ) (w : Wire) where
  pub other-sender : w.«from» ≢ x → between x y w ≡ false
  other-sender h = simp (ne_eqb w.«from» x h)

  pub other-receiver : w.to ≢ y → between x y w ≡ false
  other-receiver h = simp (ne_eqb w.to y h, and-false)

  pub same-wire : w.«from» ≡ x → w.to ≡ y → between x y w ≡ true
  same-wire p q = and_both _ _ (eq-eqb w.«from» x p) (eq-eqb w.to y q)

  pub sender-is : between x y w ≡ true → w.«from» ≡ x
  sender-is h = eqb-true _ _ (and_left _ _ h)

  pub receiver-is : between x y w ≡ true → w.to ≡ y
  receiver-is h = eqb-true _ _ (and_right (eqb w.«from» x) _ h)

-- a message that changes nothing, on whatever wire it is
pub still : {A : Type 0} (f : A → Message → A) (x y : ℕ) (e : A) (w : Wire) → f e w.message ≡ e → arriving f x y e w ≡ e
unfolding arriving
still {A} f x y e w h = by-test (λ (v : A). v ≡ e) (between x y w) (f e w.message) e (λ b. h) (λ b. refl)
