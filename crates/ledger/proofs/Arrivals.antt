-- What the wires do to a loan: a message more, a message of another wire taken off, the oldest of this one taken off.
use Rattle.std.specs.Prelude.{◌≡◌, true, false, List, [], ◌∷◌, ◌++◌, ℕ, ◌<◌, length, get_or}
use Rattle.std.proofs.Common.{sym, ◌∙◌, ap}
use Rattle.base.specs.Lists.{remove}
use Rattle.base.specs.Folds.{folds, folds-snoc, folds-skip, folds-first}
use Rattle.table.specs.declared.Wire.{Wire}
use Rattle.table.specs.declared.Message.{Message}
use Rattle.table.specs.Oldest.{between}
use Rattle.ledger.specs.Loans.{arriving}

module _ {A : Type 0} (f : A → Message → A) (x y : ℕ) where
  pub arriving-other : (w : Wire) → between x y w ≡ false → (e : A) → arriving f x y e w ≡ e
  unfolding arriving
  arriving-other w h e = simp h

  pub arriving-this : (w : Wire) → between x y w ≡ true → (e : A) → arriving f x y e w ≡ f e w.message
  unfolding arriving
  arriving-this w h e = simp h

  pub more : (e : A) (messages : List Wire) (w : Wire) → folds (arriving f x y) e (messages ++ (w ∷ [])) ≡ arriving f x y (folds (arriving f x y) e messages) w
  more e messages w = folds-snoc (arriving f x y) e messages w

  module _ (messages : List Wire) (k : ℕ) (d : Wire) (low : k < length messages) where
    pub less_other : between x y (get_or messages k d) ≡ false → (e : A) → folds (arriving f x y) e (remove k messages) ≡ folds (arriving f x y) e messages
    less_other h e = folds-skip (arriving f x y) messages k d low (arriving-other (get_or messages k d) h) e

    pub less-oldest : between x y (get_or messages k d) ≡ true → ((j : ℕ) → j < k → between x y (get_or messages j d) ≡ false)
        → (e : A) → folds (arriving f x y) (f e (get_or messages k d).message) (remove k messages) ≡ folds (arriving f x y) e messages
    less-oldest h before e =
        ap (λ (a : A). folds (arriving f x y) a (remove k messages)) (sym (arriving-this (get_or messages k d) h e))
        ∙ folds-first (arriving f x y) messages k d low (λ j l. arriving-other (get_or messages j d) (before j l)) e
