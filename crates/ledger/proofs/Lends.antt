-- LEDGER is kept where a room lends, and where it pays back: it settles, or leaves a lender for another.
use Rattle.std.specs.Prelude.{◌≡◌, ◌≢◌, ◌⊎◌, true, false, List, [], ◌∷◌, ◌++◌, ℕ, ◌≤◌, ◌<◌, length}
use Rattle.std.proofs.Math.Path.{refl, sym, ap}
use Rattle.std.proofs.Common.{◌∙◌, inl, inr, ⊎_elim, true≢false, arith, get_or-set_same, get_or-set_other}
use borrow.Author.Tests.{lt-ltb, eq-eqb, ne_eqb}
use Rattle.std.proofs.lemmas.Option.{none-some, same_Some}
use Rattle.base.specs.Choice.{split}
use Rattle.base.specs.Sums.{same?}
use Rattle.base.specs.Lists.{Mem}
use Rattle.base.specs.Folds.{folds, folds-still}
use Rattle.std.specs.Prelude.{Some, None}
use Rattle.modes.proofs.Laws.{stronger-larger}
use Rattle.room.specs.declared.Room.{Room}
use Rattle.room.specs.declared.Entry.{Entry}
use Rattle.room.specs.Limits.{room_limit}
use Rattle.room.specs.Record.{no_entry, entry_of, entry_at, with_debt, lender_of}
use Rattle.room.specs.Rules.{next_link, lent_to, credited}
use Rattle.room.proofs.Lenders.{lends-low}
use Rattle.table.specs.declared.Wire.{Wire}
use Rattle.table.specs.declared.Message.{Message}
use Rattle.table.specs.declared.Message.TheVariants as msg
use Rattle.table.specs.Oldest.{between}
use Rattle.table.specs.Formed.{is_token}
use Rattle.facts.specs.Wires.{wire}
use Rattle.facts.specs.Cases.{credited-either}
use Rattle.ledger.specs.Loans.{flush, owe, arriving, debt, flushed, owed, Ledger}
use Rattle.ledger.specs.Links.{Links}
use Rattle.ledger.proofs.Arrivals.{arriving-other, arriving-this, more}
use Rattle.ledger.proofs.Frames.{alike, other-sender, other-receiver, same-wire, sender-is, receiver-is, still}
use Rattle.ledger.proofs.Debts.{is_setting, says, Set, owes, debt-here, debt-none, flush-other, flush-none}

-- A pair of rooms whose entry and debt are as they were, and a message that neither fold minds
module _ (old new : ℕ → Room) (messages : List Wire) (w : Wire) (p c : ℕ) where
  pub pair-kept : entry_at (new p) c ≡ entry_at (old p) c → debt (new c) p ≡ debt (old c) p
      → ((e : Entry) → arriving flush c p e w ≡ e) → ((e : Entry) → arriving owe p c e w ≡ e)
      → flushed old messages p c ≡ owed old messages p c → flushed new (messages ++ (w ∷ [])) p c ≡ owed new (messages ++ (w ∷ [])) p c
  pair-kept e d f o h =
      more flush c p (entry_at (new p) c) messages w ∙ f (flushed new messages p c) ∙ ap (λ (v : Entry). folds (arriving flush c p) v messages) e ∙ h
      ∙ sym (more owe p c (debt (new c) p) messages w ∙ o (owed new messages p c) ∙ ap (λ (v : Entry). folds (arriving owe p c) v messages) d)

module _ (n : ℕ) (old new : ℕ → Room) (messages : List Wire) (me : ℕ) (others : (c : ℕ) → c ≢ me → new c ≡ old c)
    (ledger : Ledger n old messages) where
  -- "Lend m to y": the new entry has a number that no REDUCE under way has
  module _ (y m : ℕ) (here : new me ≡ lent_to (old me) y m) (other : y ≢ me) (some : 1 ≤ m) (place : y < length (old me).entries)
      (above : (w : Wire) → Mem w messages → between y me w ≡ true → (l k : ℕ) → w.message ≡ msg.Reduce l k → l < next_link (old me).counter)
      (none : (w : Wire) → Mem w messages → between y me w ≡ true → is_token w.message ≡ false) where
    abbrev link : ℕ
    link = next_link (old me).counter

    abbrev loan : Entry
    loan = record { mode = m; link = link }

    abbrev grant : Wire
    grant = wire me y (msg.Grant m link)

    entry_new : entry_at (new me) y ≡ loan
    unfolding lent_to entry_of
    entry_new = rw here (get_or-set_same (old me).entries y (entry_of m link) no_entry place ∙ simp (ne_eqb m 0 (omega arith)))

    entry_old : (c : ℕ) → c ≢ y → entry_at (new me) c ≡ entry_at (old me) c
    unfolding lent_to
    entry_old c e = rw here (get_or-set_other (old me).entries y c (entry_of m link) no_entry e)

    debts : (c p : ℕ) → debt (new c) p ≡ debt (old c) p
    unfolding lent_to debt
    debts c p = alike old new me others (λ r. debt r p) (rw here refl) c

    -- a message from y leaves the new entry
    stays : (w : Message) → is_token w ≡ false → ((l k : ℕ) → w ≡ msg.Reduce l k → l < link) → flush loan w ≡ loan
    unfolding flush is_token
    stays msg.Nothing t h = refl
    stays (msg.Request o k idle) t h = refl
    stays (msg.Grant k l) t h = refl
    stays (msg.Token k rest l) t h = absurd (true≢false t)
    stays (msg.Reduce l k) t h = flush-other loan l k (λ e. omega (arith, h l k refl))

    entry-stays : folds (arriving flush y me) loan messages ≡ loan
    entry-stays =
        folds-still (arriving flush y me) loan messages λ w i.
        split (between y me w)
        (λ b. arriving-this flush y me w b loan ∙ stays w.message (none w i b) (above w i b))
        (λ b. arriving-other flush y me w b loan)

    -- the loan as both have it
    pair-new : flushed new (messages ++ (grant ∷ [])) me y ≡ owed new (messages ++ (grant ∷ [])) me y
    unfolding flush owe
    pair-new =
        more flush y me (entry_at (new me) y) messages grant
        ∙ arriving-other flush y me grant (other-sender y me grant (λ e. other (sym e))) (flushed new messages me y)
        ∙ ap (λ (v : Entry). folds (arriving flush y me) v messages) entry_new ∙ entry-stays
        ∙ sym (more owe me y (debt (new y) me) messages grant ∙ arriving-this owe me y grant (same-wire me y grant refl refl) (owed new messages me y))

    pair-old : (p c : ℕ) → (p ≢ me) ⊎ (c ≢ y) → entry_at (new p) c ≡ entry_at (old p) c → flushed old messages p c ≡ owed old messages p c
        → flushed new (messages ++ (grant ∷ [])) p c ≡ owed new (messages ++ (grant ∷ [])) p c
    unfolding flush
    pair-old p c differ e h =
        pair-kept old new messages grant p c e (debts c p) (λ v. still flush c p v grant refl)
        (arriving-other owe p c grant (⊎_elim (λ d. other-sender p c grant (λ k. d (sym k))) (λ d. other-receiver p c grant (λ k. d (sym k))) differ)) h

    pub ledger-lend : Ledger n new (messages ++ (grant ∷ []))
    ledger-lend p c lp lc ne = go (same? p me) (same? c y)
      where
        go : (p ≡ me) ⊎ (p ≢ me) → (c ≡ y) ⊎ (c ≢ y) → flushed new (messages ++ (grant ∷ [])) p c ≡ owed new (messages ++ (grant ∷ [])) p c
        go (inl e) (inl f) = rw (e, f) pair-new
        go (inl e) (inr f) = pair-old p c (inr f) (rw e (entry_old c f)) (ledger p c lp lc ne)
        go (inr e) f = pair-old p c (inl e) (ap (λ (r : Room). entry_at r c) (others p e)) (ledger p c lp lc ne)

  -- What is owed falls to m, and the lender is sent a REDUCE: where no newer loan is under way the lender's entry falls with it
  module _ (m : ℕ) (here : new me ≡ credited (old me) m) (falls : m < (old me).credit) (low : lender_of (old me) < n) (other : lender_of (old me) ≢ me)
      (small : n ≤ room_limit) (links : Links n old messages) where
    abbrev lender : ℕ
    lender = lender_of (old me)

    owner : (old me).lender ≡ Some lender
    owner = lends-low (old me) n low small

    abbrev reduce : Wire
    reduce = wire me lender (msg.Reduce (old me).link m)

    entries : (c j : ℕ) → entry_at (new c) j ≡ entry_at (old c) j
    entries c j =
        alike old new me others (λ r. entry_at r j) (rw here (credited-either (old me) m (λ (r : Room). entry_at r j ≡ entry_at (old me) j) (λ e. refl) (λ e. refl))) c

    -- what the record says now
    debt-now : debt (new me) lender ≡ entry_of m (old me).link
    unfolding entry_of
    debt-now =
        rw here
        (credited-either (old me) m (λ (r : Room). debt r lender ≡ entry_of m (old me).link)
        (λ z. debt-none (with_debt (old me) None m 0) lender (none-some lender) ∙ sym (simp (eq-eqb m 0 z)))
        (λ z. debt-here (with_debt (old me) (old me).lender m (old me).link) lender owner ∙ sym (simp (ne_eqb m 0 z))))

    -- it says of no other that something is owed
    debt-other : (p : ℕ) → p < n → p ≢ lender → debt (new me) p ≡ no_entry
    debt-other p l e =
        rw here
        (credited-either (old me) m (λ (r : Room). debt r p ≡ no_entry) (λ e. debt-none (with_debt (old me) None m 0) p (none-some p))
        (λ z. debt-none (with_debt (old me) (old me).lender m (old me).link) p (λ k. e (sym (same_Some lender p (sym owner ∙ k))))))

    -- the REDUCE lowers the loan that it is of,
    lowered : flush (record { mode = (old me).credit; link = (old me).link }) (msg.Reduce (old me).link m) ≡ entry_of m (old me).link
    unfolding flush
    lowered =
        simp (eq-eqb (old me).link (old me).link refl, sym (stronger-larger (old me).credit m) ∙ lt-ltb m (old me).credit falls)

    -- and leaves a newer one, and none
    newer : (w : Wire) → Mem w messages → between lender me w ≡ true → (v : Message) → w.message ≡ v → is_setting v ≡ true
        → flush (says v) (msg.Reduce (old me).link m) ≡ says v
    unfolding is_setting owe flush
    newer w i b msg.Nothing e s = absurd (true≢false (sym s))
    newer w i b (msg.Request o k idle) e s = absurd (true≢false (sym s))
    newer w i b (msg.Grant k l) e s = flush-other (record { mode = k; link = l }) (old me).link m differ
      where
        to : w.to ≡ me
        to = receiver-is lender me w b

        differ : l ≢ (old me).link
        differ z = links.differs w i k l e (ap (λ (c : ℕ). (old c).lender) to ∙ owner ∙ ap Some (sym (sender-is lender me w b))) (z ∙ sym (ap (λ (c : ℕ). (old c).link) to))
    newer w i b (msg.Token k rest l) e s = flush-none (old me).link m
    newer w i b (msg.Reduce l k) e s = absurd (true≢false (sym s))

    pair-paid : me ≢ lender → flushed old messages lender me ≡ owed old messages lender me
        → flushed new (messages ++ (reduce ∷ [])) lender me ≡ owed new (messages ++ (reduce ∷ [])) lender me
    unfolding owe
    pair-paid ne h =
        more flush me lender (entry_at (new lender) me) messages reduce
        ∙ arriving-this flush me lender reduce (same-wire me lender reduce refl refl) (flushed new messages lender me)
        ∙ ap (λ (v : Entry). flush v (msg.Reduce (old me).link m)) (ap (λ (v : Entry). folds (arriving flush me lender) v messages) (entries lender me) ∙ h)
        ∙ go (owes lender me messages)
        ∙ sym (more owe lender me (debt (new me) lender) messages reduce ∙ still owe lender me (owed new messages lender me) reduce refl)
      where
        go : ((e : Entry) → folds (arriving owe lender me) e messages ≡ e) ⊎ Set lender me messages
            → flush (owed old messages lender me) (msg.Reduce (old me).link m) ≡ owed new messages lender me
        go (inl k) =
            ap (λ (v : Entry). flush v (msg.Reduce (old me).link m)) (k (debt (old me) lender) ∙ debt-here (old me) lender owner) ∙ lowered
            ∙ sym (k (debt (new me) lender) ∙ debt-now)
        go (inr s) =
            ap (λ (v : Entry). flush v (msg.Reduce (old me).link m)) (s.owes (debt (old me) lender))
            ∙ newer s.by s.mem s.on s.by.message refl s.setting ∙ sym (s.owes (debt (new me) lender))

    pair_same : (p c : ℕ) → (c ≢ me) ⊎ (p ≢ lender) → debt (new c) p ≡ debt (old c) p → flushed old messages p c ≡ owed old messages p c
        → flushed new (messages ++ (reduce ∷ [])) p c ≡ owed new (messages ++ (reduce ∷ [])) p c
    unfolding owe
    pair_same p c differ d h =
        pair-kept old new messages reduce p c (entries p c) d
        (arriving-other flush c p reduce (⊎_elim (λ k. other-sender c p reduce (λ e. k (sym e))) (λ k. other-receiver c p reduce (λ e. k (sym e))) differ))
        (λ v. still owe p c v reduce refl) h

    pub ledger-pay : Ledger n new (messages ++ (reduce ∷ []))
    ledger-pay p c lp lc ne = go (same? c me) (same? p lender)
      where
        go : (c ≡ me) ⊎ (c ≢ me) → (p ≡ lender) ⊎ (p ≢ lender)
            → flushed new (messages ++ (reduce ∷ [])) p c ≡ owed new (messages ++ (reduce ∷ [])) p c
        go (inl e) (inl f) = rw (e, f) (pair-paid (λ k. other (sym k)) (ledger lender me low (rw e at lc) other))
        go (inl e) (inr f) =
            pair_same p c (inr f) (rw e (debt-other p lp f ∙ sym (debt-none (old me) p (λ k. f (sym (same_Some lender p (sym owner ∙ k))))))) (ledger p c lp lc ne)
        go (inr e) f = pair_same p c (inl e) (ap (λ (r : Room). debt r p) (others c e)) (ledger p c lp lc ne)
