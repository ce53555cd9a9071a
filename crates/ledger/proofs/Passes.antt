-- LEDGER is kept where the token goes: the receiver's entry is cleared, and what remains is owed to the receiver.
use Rattle.std.specs.Prelude.{◌≡◌, ◌≢◌, ◌⊎◌, false, List, [], ◌∷◌, ◌++◌, ℕ, ◌≤◌, ◌<◌, length}
use Rattle.std.proofs.Math.Path.{refl, sym, ap}
use Rattle.std.proofs.Common.{◌∙◌, inl, inr, ⊎_elim, true≢false, eq-eqb, ne_eqb, arith}
use Rattle.std.proofs.Math.Seq.{get_or-set_same, get_or-set_other}
use Rattle.std.proofs.lemmas.Option.{same_Some}
use Rattle.base.specs.Choice.{split}
use Rattle.base.specs.Sums.{same?}
use Rattle.base.specs.Lists.{Mem}
use Rattle.base.specs.Folds.{folds, folds-still}
use Rattle.std.specs.Prelude.{Some, None}
use Rattle.room.specs.declared.Room.{Room}
use Rattle.room.specs.declared.Entry.{Entry}
use Rattle.room.specs.Limits.{room_limit}
use Rattle.room.specs.Record.{no_entry, entry_of, entry_at, with_debt}
use Rattle.room.specs.Rules.{next_link, left, remaining, passed_to}
use Rattle.room.proofs.Lenders.{nobody-lends}
use Rattle.table.specs.declared.Wire.{Wire}
use Rattle.table.specs.declared.Message.{Message}
use Rattle.table.specs.declared.Message.TheVariants as msg
use Rattle.table.specs.Oldest.{between}
use Rattle.table.specs.Formed.{is_token}
use Rattle.facts.specs.Wires.{wire}
use Rattle.facts.specs.Cases.{passed-either, passed-low}
use Rattle.ledger.specs.Loans.{flush, owe, arriving, debt, flushed, owed, Ledger}
use Rattle.ledger.proofs.Arrivals.{arriving-other, arriving-this, more}
use Rattle.ledger.proofs.Frames.{other-sender, other-receiver, same-wire, receiver-is}
use Rattle.ledger.proofs.Debts.{is_setting, owes-kept, debt-here, debt-none, flush-none}
use Rattle.ledger.proofs.Lends.{pair-kept}

-- a message that is no TOKEN leaves no entry as it is
none_stays : (w : Message) → is_token w ≡ false → flush no_entry w ≡ no_entry
unfolding flush is_token
none_stays msg.Nothing t = refl
none_stays (msg.Request o k idle) t = refl
none_stays (msg.Grant k l) t = refl
none_stays (msg.Token k rest l) t = absurd (true≢false t)
none_stays (msg.Reduce l k) t = flush-none l k

module _ (n : ℕ) (old new : ℕ → Room) (messages : List Wire) (me : ℕ) (others : (c : ℕ) → c ≢ me → new c ≡ old c)
    (ledger : Ledger n old messages) (y m : ℕ) (here : new me ≡ passed_to (old me) y) (low : y < n) (other : y ≢ me) (small : n ≤ room_limit)
    (place : y < length (old me).entries) (free : (old me).lender ≡ None)
    (none : (w : Wire) → Mem w messages → is_token w.message ≡ false)
    (unset : (w : Wire) → Mem w messages → w.to ≡ me → is_setting w.message ≡ false) where
  abbrev link : ℕ
  link = next_link (old me).counter

  abbrev rest : ℕ
  rest = remaining (old me) y

  abbrev owing : Room
  owing = with_debt (left (old me) y) (Some y) rest link

  abbrev token : Wire
  token = wire me y (msg.Token m rest link)

  entry_new : entry_at (new me) y ≡ no_entry
  unfolding left
  entry_new = rw here (passed-either (old me) y (λ (r : Room). entry_at r y ≡ no_entry) (λ e. cleared) (λ e. cleared))
    where
      cleared : entry_at (left (old me) y) y ≡ no_entry
      cleared = get_or-set_same (old me).entries y no_entry no_entry place

  entry_old : (c : ℕ) → c ≢ y → entry_at (new me) c ≡ entry_at (old me) c
  unfolding left
  entry_old c e = rw here (passed-either (old me) y (λ (r : Room). entry_at r c ≡ entry_at (old me) c) (λ e. same) (λ e. same))
    where
      same : entry_at (left (old me) y) c ≡ entry_at (old me) c
      same = get_or-set_other (old me).entries y c no_entry no_entry e

  -- what remains is owed to y, and nothing to others
  debt-new : debt (new me) y ≡ entry_of rest link
  unfolding entry_of left
  debt-new =
      rw here
      (passed-low (old me) y (omega arith) (λ (r : Room). debt r y ≡ entry_of rest link)
      (λ z. debt-none (left (old me) y) y (nobody-lends free) ∙ sym (simp (eq-eqb rest 0 z)))
      (λ z. debt-here owing y refl ∙ sym (simp (ne_eqb rest 0 z))))

  debt-old : (p : ℕ) → p < n → debt (old me) p ≡ no_entry
  debt-old p l = debt-none (old me) p (nobody-lends free)

  debt-other : (p : ℕ) → p < n → p ≢ y → debt (new me) p ≡ no_entry
  unfolding left
  debt-other p l e =
      rw here
      (passed-low (old me) y (omega arith) (λ (r : Room). debt r p ≡ no_entry) (λ e. debt-none (left (old me) y) p (nobody-lends free))
      (λ z. debt-none owing p (λ k. e (sym (same_Some y p k)))))

  -- what y owed has ended
  pair_ended : flushed new (messages ++ (token ∷ [])) me y ≡ owed new (messages ++ (token ∷ [])) me y
  unfolding owe
  pair_ended =
      more flush y me (entry_at (new me) y) messages token
      ∙ arriving-other flush y me token (other-sender y me token (λ e. other (sym e))) (flushed new messages me y)
      ∙ ap (λ (v : Entry). folds (arriving flush y me) v messages) entry_new ∙ stays
      ∙ sym (more owe me y (debt (new y) me) messages token ∙ arriving-this owe me y token (same-wire me y token refl refl) (owed new messages me y))
    where
      stays : folds (arriving flush y me) no_entry messages ≡ no_entry
      stays =
          folds-still (arriving flush y me) no_entry messages λ w i.
          split (between y me w)
          (λ b. arriving-this flush y me w b no_entry ∙ none_stays w.message (none w i))
          (λ b. arriving-other flush y me w b no_entry)

  -- what remains is the loan of y
  pair-begun : flushed new (messages ++ (token ∷ [])) y me ≡ owed new (messages ++ (token ∷ [])) y me
  unfolding flush
  pair-begun =
      more flush me y (entry_at (new y) me) messages token
      ∙ arriving-this flush me y token (same-wire me y token refl refl) (flushed new messages y me)
      ∙ sym (more owe y me (debt (new me) y) messages token
      ∙ arriving-other owe y me token (other-sender y me token (λ e. other (sym e))) (owed new messages y me)
      ∙ owes-kept y me messages (λ w i b. unset w i (receiver-is y me w b)) (debt (new me) y) ∙ debt-new)

  pair-old : (p c : ℕ) → (p ≢ me) ⊎ (c ≢ y) → (c ≢ me) ⊎ (p ≢ y) → entry_at (new p) c ≡ entry_at (old p) c → debt (new c) p ≡ debt (old c) p
      → flushed old messages p c ≡ owed old messages p c → flushed new (messages ++ (token ∷ [])) p c ≡ owed new (messages ++ (token ∷ [])) p c
  pair-old p c forth back e d h =
      pair-kept old new messages token p c e d
      (arriving-other flush c p token (⊎_elim (λ k. other-sender c p token (λ z. k (sym z))) (λ k. other-receiver c p token (λ z. k (sym z))) back))
      (arriving-other owe p c token (⊎_elim (λ k. other-sender p c token (λ z. k (sym z))) (λ k. other-receiver p c token (λ z. k (sym z))) forth)) h

  pub ledger-pass : Ledger n new (messages ++ (token ∷ []))
  ledger-pass p c lp lc ne = go (same? p me) (same? c me) (same? c y) (same? p y)
    where
      go : (p ≡ me) ⊎ (p ≢ me) → (c ≡ me) ⊎ (c ≢ me) → (c ≡ y) ⊎ (c ≢ y) → (p ≡ y) ⊎ (p ≢ y)
          → flushed new (messages ++ (token ∷ [])) p c ≡ owed new (messages ++ (token ∷ [])) p c
      go (inl a) (inl b) f g = absurd (ne (a ∙ sym b))
      go (inl a) (inr b) (inl f) g = rw (a, f) pair_ended
      go (inl a) (inr b) (inr f) g =
          pair-old p c (inr f) (inl b) (rw a (entry_old c f)) (ap (λ (r : Room). debt r p) (others c b)) (ledger p c lp lc ne)
      go (inr a) (inl b) f (inl g) = rw (b, g) pair-begun
      go (inr a) (inl b) f (inr g) =
          pair-old p c (inl a) (inr g) (ap (λ (r : Room). entry_at r c) (others p a)) (rw b (debt-other p lp g ∙ sym (debt-old p lp))) (ledger p c lp lc ne)
      go (inr a) (inr b) f g =
          pair-old p c (inl a) (inl b) (ap (λ (r : Room). entry_at r c) (others p a)) (ap (λ (r : Room). debt r p) (others c b)) (ledger p c lp lc ne)
