-- How far a lender's counter reaches: it is at least where it stands, and never falls.
use Rattle.std.specs.Prelude.{◌≡◌, refl, true, false, ℕ, ◌≤◌}
use Rattle.std.proofs.Common.{◌∙◌, true≢false}
use mathlib.Core.List.{List, [], ◌∷◌, ◌++◌}
use native.Mathlib.Omega.{arith}
use Rattle.base.specs.Choice.{by-test, split}
use Rattle.base.specs.Lists.{Mem}
use Rattle.base.specs.Folds.{folds, folds-still}
use Rattle.room.specs.Rules.{lifted}
use Rattle.table.specs.declared.Wire.{Wire}
use Rattle.table.specs.declared.Message.{Message}
use Rattle.table.specs.declared.Message.TheVariants as msg
use Rattle.table.specs.Oldest.{between}
use Rattle.table.specs.Formed.{is_token}
use Rattle.facts.specs.Cases.{lifted-either}
use Rattle.ledger.specs.Loans.{arriving}
use Rattle.ledger.specs.Links.{lift}
use Rattle.ledger.proofs.Arrivals.{arriving-other, arriving-this, more}

pub lifted_own : (k l : ℕ) → k ≤ lifted k l
lifted_own k l = lifted-either k l (λ (v : ℕ). k ≤ v) (λ h. omega arith) (λ h. omega arith)

pub lifted-link : (k l : ℕ) → l ≤ lifted k l
lifted-link k l = lifted-either k l (λ (v : ℕ). l ≤ v) (λ h. omega arith) (λ h. h)

pub lifted-below : (k l b : ℕ) → k ≤ b → l ≤ b → lifted k l ≤ b
lifted-below k l b p q = lifted-either k l (λ (v : ℕ). v ≤ b) (λ h. q) (λ h. p)

lift-up : (m : Message) (k : ℕ) → k ≤ lift k m
unfolding lift
lift-up msg.Nothing k = omega arith
lift-up (msg.Request o m idle) k = omega arith
lift-up (msg.Grant m l) k = omega arith
lift-up (msg.Token m rest l) k = omega (arith, lifted_own k l)
lift-up (msg.Reduce l m) k = omega arith

lift-more : (m : Message) (j k : ℕ) → j ≤ k → lift j m ≤ lift k m
unfolding lift
lift-more msg.Nothing j k h = h
lift-more (msg.Request o m idle) j k h = h
lift-more (msg.Grant m l) j k h = h
lift-more (msg.Token m rest l) j k h = omega (arith, lifted-below j l (lifted k l) (omega (arith, lifted_own k l)) (lifted-link k l))
lift-more (msg.Reduce l m) j k h = h

pub lift-still : (m : Message) → is_token m ≡ false → (k : ℕ) → lift k m ≡ k
unfolding lift is_token
lift-still msg.Nothing h k = refl
lift-still (msg.Request o m idle) h k = refl
lift-still (msg.Grant m l) h k = refl
lift-still (msg.Token m rest l) h k = absurd (true≢false h)
lift-still (msg.Reduce l m) h k = refl

module _ (x y : ℕ) where
  pub arriving-up : (w : Wire) (k : ℕ) → k ≤ arriving lift x y k w
  unfolding arriving
  arriving-up w k = by-test (λ (v : ℕ). k ≤ v) (between x y w) (lift k w.message) k (λ b. lift-up w.message k) (λ b. omega arith)

  arriving-more : (w : Wire) (j k : ℕ) → j ≤ k → arriving lift x y j w ≤ arriving lift x y k w
  arriving-more w j k h =
      split (between x y w)
      (λ b. rw (arriving-this lift x y w b j, arriving-this lift x y w b k) (lift-more w.message j k h))
      (λ b. rw (arriving-other lift x y w b j, arriving-other lift x y w b k) h)

  -- over a list of messages
  pub reach-more : (messages : List Wire) (j k : ℕ) → j ≤ k → folds (arriving lift x y) j messages ≤ folds (arriving lift x y) k messages
  unfolding folds
  reach-more [] j k h = h
  reach-more (w ∷ l) j k h = reach-more l (arriving lift x y j w) (arriving lift x y k w) (arriving-more w j k h)

  pub reach-up : (messages : List Wire) (k : ℕ) → k ≤ folds (arriving lift x y) k messages
  unfolding folds
  reach-up [] k = omega arith
  reach-up (w ∷ l) k = omega (arith, arriving-up w k, reach-up l (arriving lift x y k w))

  -- one message more
  pub reach-sent : (messages : List Wire) (w : Wire) (k : ℕ) → folds (arriving lift x y) k messages ≤ folds (arriving lift x y) k (messages ++ (w ∷ []))
  reach-sent messages w k = rw (more lift x y k messages w) (arriving-up w (folds (arriving lift x y) k messages))

  -- with no TOKEN on the wire it is where it stands
  pub reach-still : (messages : List Wire) → ((w : Wire) → Mem w messages → between x y w ≡ true → is_token w.message ≡ false)
      → (k : ℕ) → folds (arriving lift x y) k messages ≡ k
  reach-still messages h k =
      folds-still (arriving lift x y) k messages λ w m.
      split (between x y w) (λ b. arriving-this lift x y w b k ∙ lift-still w.message (h w m b) k) (λ b. arriving-other lift x y w b k)
