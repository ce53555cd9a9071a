-- LEDGER is kept where a message is taken off its wire and does its work: both folds had it in them already.
use Rattle.std.specs.Prelude.{◌≡◌, ◌≢◌, ◌⊎◌, false, List, ℕ, ◌≤◌, ◌<◌, length, get_or}
use Rattle.std.proofs.Math.Path.{refl, sym}
use Rattle.std.proofs.Common.{◌∙◌, ap, inl, inr, ⊎_elim, get_or-set_same}
use Rattle.std.proofs.Math.Seq.{get_or-set_other}
use Rattle.std.proofs.lemmas.Option.{none-some, same_Some}
use Rattle.base.specs.Sums.{same?}
use Rattle.base.specs.Lists.{remove}
use Rattle.base.specs.Folds.{folds, folds-skip}
use Rattle.std.specs.Prelude.{Some, None}
use Rattle.room.specs.declared.Room.{Room}
use Rattle.room.specs.declared.Entry.{Entry}
use Rattle.room.specs.Limits.{room_limit}
use Rattle.room.specs.Record.{no_entry, entry_of, entry_at, with_modes, with_debt, lender_in}
use Rattle.room.specs.Rules.{tokened_by, reduced}
use Rattle.room.proofs.Lenders.{nobody-lends, lender-named, lender-within}
use Rattle.table.specs.declared.Wire.{Wire}
use Rattle.table.specs.declared.Message.{Message}
use Rattle.table.specs.declared.Message.TheVariants as msg
use Rattle.table.specs.Tables.{no_wire}
use Rattle.table.specs.Oldest.{between}
use Rattle.facts.specs.Wires.{wire}
use Rattle.facts.specs.Cases.{reduced-either}
use Rattle.ledger.specs.Loans.{flush, owe, arriving, debt, flushed, owed, Ledger}
use Rattle.ledger.proofs.Arrivals.{less_other, less-oldest}
use Rattle.ledger.proofs.Frames.{other-sender, other-receiver, same-wire, still}
use Rattle.ledger.proofs.Debts.{debt-here, debt-none}

-- The message at place k is the oldest from a to me.
pub record Oldest (messages : List Wire) (k a me : ℕ) (m : Message) : Type 0 where
  pub low : k < length messages
  pub there : get_or messages k no_wire ≡ wire a me m
  pub first : (j : ℕ) → j < k → between a me (get_or messages j no_wire) ≡ false

module _ (messages : List Wire) (k a me : ℕ) (m : Message) (o : Oldest messages k a me m) {A : Type 0} (f : A → Message → A) where
  -- a fold over another wire does not see it go
  pub gone-other : (x y : ℕ) → (a ≢ x) ⊎ (me ≢ y) → (e : A) → folds (arriving f x y) e (remove k messages) ≡ folds (arriving f x y) e messages
  gone-other x y differ e =
      less_other f x y messages k no_wire o.low
      (rw o.there (⊎_elim (λ d. other-sender x y (wire a me m) d) (λ d. other-receiver x y (wire a me m) d) differ)) e

  -- nor does one that the message changes nothing in
  pub gone-still : ((e : A) → f e m ≡ e) → (x y : ℕ) (e : A) → folds (arriving f x y) e (remove k messages) ≡ folds (arriving f x y) e messages
  gone-still s x y e =
      folds-skip (arriving f x y) messages k no_wire o.low (λ v. rw o.there (still f x y v (wire a me m) (s v))) e

  -- a fold over its wire had it first
  pub gone-first : (e : A) → folds (arriving f a me) (f e m) (remove k messages) ≡ folds (arriving f a me) e messages
  gone-first e =
      ap (λ (v : A). folds (arriving f a me) v (remove k messages)) (sym (ap (λ (w : Wire). f e w.message) o.there))
      ∙ less-oldest f a me messages k no_wire o.low (rw o.there (same-wire a me (wire a me m) refl refl)) o.first e

module _ (n : ℕ) (old new : ℕ → Room) (messages : List Wire) (me : ℕ) (others : (c : ℕ) → c ≢ me → new c ≡ old c)
    (ledger : Ledger n old messages) (k a : ℕ) (other : a ≢ me) (m : Message) (o : Oldest messages k a me m) where
  -- the entry and the debt of the two rooms have taken it in, and no other has changed
  taken : ((e : Entry) → e ≡ entry_at (old me) a → flush e m ≡ entry_at (new me) a) → ((c : ℕ) → c ≢ a → entry_at (new me) c ≡ entry_at (old me) c)
      → (a < n → folds (arriving owe a me) (debt (new me) a) (remove k messages) ≡ owed old messages a me)
      → ((p : ℕ) → p < n → p ≢ a → debt (new me) p ≡ debt (old me) p) → Ledger n new (remove k messages)
  taken entry entries lent debts p c lp lc ne = go (same? p me) (same? c me) (same? c a) (same? p a)
    where
      go : (p ≡ me) ⊎ (p ≢ me) → (c ≡ me) ⊎ (c ≢ me) → (c ≡ a) ⊎ (c ≢ a) → (p ≡ a) ⊎ (p ≢ a)
          → flushed new (remove k messages) p c ≡ owed new (remove k messages) p c
      go (inl x) (inl z) f g = absurd (ne (x ∙ sym z))
      go (inl x) (inr z) (inl f) g =
          rw (x, f)
          (ap (λ (v : Entry). folds (arriving flush a me) v (remove k messages)) (sym (entry (entry_at (old me) a) refl))
          ∙ gone-first messages k a me m o flush (entry_at (old me) a) ∙ ledger me a (rw x at lp) (rw f at lc) (λ e. other (sym e))
          ∙ sym (gone-other messages k a me m o owe me a (inl other) (debt (new a) me) ∙ ap (λ (r : Room). folds (arriving owe me a) (debt r me) messages) (others a other)))
      go (inl x) (inr z) (inr f) g =
          gone-other messages k a me m o flush c p (inl (λ e. f (sym e))) (entry_at (new p) c)
          ∙ ap (λ (v : Entry). folds (arriving flush c p) v messages) (rw x (entries c f)) ∙ ledger p c lp lc ne
          ∙ sym (gone-other messages k a me m o owe p c (inr (λ e. z (sym e))) (debt (new c) p) ∙ ap (λ (r : Room). folds (arriving owe p c) (debt r p) messages) (others c z))
      go (inr x) (inl z) f (inl g) =
          rw (z, g)
          (gone-other messages k a me m o flush me a (inl other) (entry_at (new a) me)
          ∙ ap (λ (r : Room). folds (arriving flush me a) (entry_at r me) messages) (others a other) ∙ ledger a me (rw g at lp) (rw z at lc) other ∙ sym (lent (rw g at lp)))
      go (inr x) (inl z) f (inr g) =
          gone-other messages k a me m o flush c p (inr (λ e. x (sym e))) (entry_at (new p) c)
          ∙ ap (λ (r : Room). folds (arriving flush c p) (entry_at r c) messages) (others p x) ∙ ledger p c lp lc ne
          ∙ sym (gone-other messages k a me m o owe p c (inl (λ e. g (sym e))) (debt (new c) p) ∙ ap (λ (v : Entry). folds (arriving owe p c) v messages) (rw z (debts p lp g)))
      go (inr x) (inr z) f g =
          gone-other messages k a me m o flush c p (inr (λ e. x (sym e))) (entry_at (new p) c)
          ∙ ap (λ (r : Room). folds (arriving flush c p) (entry_at r c) messages) (others p x) ∙ ledger p c lp lc ne
          ∙ sym (gone-other messages k a me m o owe p c (inr (λ e. z (sym e))) (debt (new c) p) ∙ ap (λ (r : Room). folds (arriving owe p c) (debt r p) messages) (others c z))

  abbrev Taken : Type 0
  Taken = Ledger n new (remove k messages)

  -- "REDUCE: if b's entry for a has this link number and a stronger mode than the new one, it takes the new mode"
  pub ledger-reduce : (l j : ℕ) → m ≡ msg.Reduce l j → new me ≡ reduced (old me) a l j → a < length (old me).entries → Taken
  unfolding flush owe debt
  ledger-reduce l j e here place =
      taken
      (λ v q. rw (q, e, here) entry)
      (λ c f. rw here (reduced-either (old me) a l j (λ (r : Room). entry_at r c ≡ entry_at (old me) c)
      (λ e. get_or-set_other (old me).entries a c (entry_of j l) no_entry f) (λ e. refl)))
      (λ near. rw here (reduced-either (old me) a l j (λ (r : Room). folds (arriving owe a me) (debt r a) (remove k messages) ≡ owed old messages a me) (λ e. keep) (λ e. keep)))
      (λ p lp f. rw here (reduced-either (old me) a l j (λ (r : Room). debt r p ≡ debt (old me) p) (λ e. refl) (λ e. refl)))
    where
      keep : folds (arriving owe a me) (debt (old me) a) (remove k messages) ≡ owed old messages a me
      keep = gone-still messages k a me m o owe (λ v. rw e refl) a me (debt (old me) a)

      entry : flush (entry_at (old me) a) (msg.Reduce l j) ≡ entry_at (reduced (old me) a l j) a
      entry =
          reduced-either (old me) a l j (λ (r : Room). flush (entry_at (old me) a) (msg.Reduce l j) ≡ entry_at r a)
          (λ b. simp b (sym (get_or-set_same (old me).entries a (entry_of j l) no_entry place))) (λ b. simp b)

  -- A room that owes nothing, or owes a alone, takes a GRANT or the TOKEN of a.
  module _ (small : n ≤ room_limit) (owing : ((old me).lender ≡ None) ⊎ ((old me).lender ≡ Some a)) where
    debt-old : (p : ℕ) → p < n → p ≢ a → debt (old me) p ≡ no_entry
    debt-old p l f = debt-none (old me) p (λ e. ⊎_elim (λ z. nobody-lends z e) (λ z. f (same_Some p a (sym e ∙ z))) owing)

    -- "GRANT: .. Then lender a, the new link number, credit and held the mode, wanted none."
    pub ledger-grant : (j l : ℕ) → m ≡ msg.Grant j l → new me ≡ with_debt (with_modes (old me) j 0) (lender_in a) j l → Taken
    unfolding flush owe
    ledger-grant j l e here =
        taken
        (λ v q. rw (q, e, here) refl)
        (λ c f. rw here refl)
        (λ near. ap (λ (v : Entry). folds (arriving owe a me) v (remove k messages)) (rw here (debt-here (with_debt (with_modes (old me) j 0) (lender_in a) j l) a (lender-within a n near small)) ∙ sym (says (debt (old me) a)))
        ∙ gone-first messages k a me m o owe (debt (old me) a))
        (λ p lp f. rw here (debt-none (with_debt (with_modes (old me) j 0) (lender_in a) j l) p (λ z. f (lender-named a p z))) ∙ sym (debt-old p lp f))
      where
        says : (v : Entry) → owe v m ≡ record { mode = j; link = l }
        says v = rw e refl

    -- "TOKEN: .. then no lender, credit none, .. its entry for a is the remaining mode with the link number"
    pub ledger-token : (j rest l : ℕ) → m ≡ msg.Token j rest l → new me ≡ tokened_by (old me) me a j rest l → a < n → a < length (old me).entries → Taken
    unfolding tokened_by flush owe
    ledger-token j rest l e here low place =
        taken
        (λ v q. rw (e, here) (sym (get_or-set_same (old me).entries a (entry_of rest l) no_entry place)))
        (λ c f. rw here (get_or-set_other (old me).entries a c (entry_of rest l) no_entry f))
        (λ near. ap (λ (v : Entry). folds (arriving owe a me) v (remove k messages)) (free a low ∙ sym (says (debt (old me) a)))
        ∙ gone-first messages k a me m o owe (debt (old me) a))
        (λ p lp f. free p lp ∙ sym (debt-old p lp f))
      where
        says : (v : Entry) → owe v m ≡ no_entry
        says v = rw e refl

        free : (p : ℕ) → p < n → debt (new me) p ≡ no_entry
        free p lp = rw here (debt-none (tokened_by (old me) me a j rest l) p (none-some p))
