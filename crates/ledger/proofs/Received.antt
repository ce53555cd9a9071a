-- LINKS is kept where a room pays back, and where a message is taken off its wire.
use Rattle.std.specs.Prelude.{◌≡◌, ◌≢◌, ◌⊎◌, Bool, false, List, [], ◌∷◌, ◌++◌, ℕ, ◌≤◌, ◌<◌, eqb}
use Rattle.std.proofs.Math.Path.{refl, ap}
use Rattle.std.proofs.Common.{sym, ◌∙◌, arith}
use Rattle.std.proofs.Math.Logic.{inl, inr, ⊎_elim}
use Rattle.std.proofs.lemmas.Option.{none-some}
use Rattle.base.specs.Choice.{by-test}
use Rattle.base.specs.Sums.{same?}
use Rattle.base.specs.Lists.{Mem, remove, mem-remove}
use Rattle.base.specs.Folds.{folds}
use Rattle.std.specs.Prelude.{Some, None}
use Rattle.room.specs.declared.Room.{Room}
use Rattle.room.specs.Limits.{room_limit}
use Rattle.room.specs.Record.{with_modes, with_debt, lender_of, lender_in}
use Rattle.room.specs.Rules.{credited, lifted, tokened_by, reduced}
use Rattle.room.proofs.Lenders.{lends-low, lender-named}
use Rattle.table.specs.declared.Wire.{Wire}
use Rattle.table.specs.declared.Message.{Message}
use Rattle.table.specs.declared.Message.TheVariants as msg
use Rattle.table.specs.Formed.{is_token}
use Rattle.facts.specs.Wires.{wire}
use Rattle.facts.specs.Cases.{reduced-either}
use Rattle.ledger.specs.Loans.{arriving}
use Rattle.ledger.specs.Links.{lift, reach, Links}
use Rattle.ledger.proofs.Takes.{Oldest, gone-other, gone-still, gone-first}
use Rattle.ledger.proofs.Reach.{lifted_own, lift-still, reach-more, reach-up}
use Rattle.ledger.proofs.Numbers.{Linked, Owes, silent-request, links-kept, counters-kept, owes-kept, owes-other, grows-sent, either}

-- a REQUEST sent
pub links-ask : (n : ℕ) (rooms : ℕ → Room) (messages : List Wire) → Links n rooms messages → (x y o m : ℕ) (idle : Bool)
    → Links n rooms (messages ++ (wire x y (msg.Request o m idle) ∷ []))
links-ask n rooms messages links x y o m idle =
    links-kept n rooms rooms messages (messages ++ (request ∷ [])) links
    (grows-sent n rooms rooms messages x (λ c d. refl) links request (omega arith)) (λ c. omega arith)
    (either n rooms rooms messages x (λ c d. refl) links request (omega arith) (silent-request rooms (messages ++ (request ∷ [])) x y o m idle))
    (λ p c lp lc e. inl (e, refl)) (λ w j i k l g e. inl (e, refl))
  where
    request : Wire
    request = wire x y (msg.Request o m idle)

module _ (n : ℕ) (old new : ℕ → Room) (messages : List Wire) (me : ℕ) (others : (c : ℕ) → c ≢ me → new c ≡ old c) (links : Links n old messages) where
  -- What is owed falls to m, and the lender is sent a REDUCE under the loan's own number
  pub links-pay : (m : ℕ) → new me ≡ credited (old me) m → lender_of (old me) < n → me < n → n ≤ room_limit
      → ((w : Wire) → Mem w messages → w.«from» < n)
      → Links n new (messages ++ (wire me (lender_of (old me)) (msg.Reduce (old me).link m) ∷ []))
  unfolding credited
  links-pay m here low own small senders =
      links-kept n old new messages (messages ++ (reduce ∷ [])) links grows (counters-kept n old new messages me others links (omega (arith, count)))
      (either n old new messages me others links reduce (omega (arith, count)) paid)
      (λ p c lp lc e. inl (owes p c lp e)) (λ w j i k l g e. inl (owes w.«from» w.to (senders w i) e))
    where
      reduce : Wire
      reduce = wire me (lender_of (old me)) (msg.Reduce (old me).link m)

      freed : Room
      freed = with_debt (old me) None m 0

      kept : Room
      kept = with_debt (old me) (old me).lender m (old me).link

      count : (new me).counter ≡ (old me).counter
      count = rw here (by-test (λ (r : Room). r.counter ≡ (old me).counter) (eqb m 0) freed kept (λ b. refl) (λ b. refl))

      grows : (p c : ℕ) → reach old messages p c ≤ reach new (messages ++ (reduce ∷ [])) p c
      grows = grows-sent n old new messages me others links reduce (omega (arith, count))

      paid : Linked new (messages ++ (reduce ∷ [])) reduce
      paid =
          record {
            reduce = λ l k e.
                let q : (old me).link ≡ l = cc in
                omega (arith, links.debt (lender_of (old me)) me low own (lends-low (old me) n low small), grows (lender_of (old me)) me);
            grant = λ k l e. let z : ◌≡◌ {A = ℕ} 0 1 = cc in absurd (omega arith);
            differs = λ k l e. let z : ◌≡◌ {A = ℕ} 0 1 = cc in absurd (omega arith);
          }

      -- a lender that is left is the old one, and nobody is no room
      here-owes : (p : ℕ) → p < n → (new me).lender ≡ Some p → Owes (old me) (new me) p
      here-owes p lp e =
          by-test (λ (r : Room). new me ≡ r → Owes (old me) (new me) p) (eqb m 0) freed kept
          (λ b q. absurd (none-some p (sym (ap (λ (r : Room). r.lender) q) ∙ e)))
          (λ b q. (sym (ap (λ (r : Room). r.lender) q) ∙ e, ap (λ (r : Room). r.link) q)) here

      owes : (p c : ℕ) → p < n → (new c).lender ≡ Some p → Owes (old c) (new c) p
      owes p c lp e = ⊎_elim (λ q. rw q (here-owes p lp (rw q at e))) (λ q. owes-other n old new messages me others links p c q e) (same? c me)

  module _ (k a : ℕ) (m : Message) (o : Oldest messages k a me m) where
    -- no message is new, and numbers reach as far
    fewer : (w : Wire) → Mem w (remove k messages) → Mem w messages ⊎ Linked new (remove k messages) w
    fewer w i = inl (mem-remove k messages i)

    grows-still : is_token m ≡ false → (old me).counter ≤ (new me).counter → (p c : ℕ) → reach old messages p c ≤ reach new (remove k messages) p c
    grows-still t h p c = omega (
      arith,
      gone-still messages k a me m o lift (λ v. lift-still m t v) c p (new p).counter,
      reach-more c p messages (old p).counter (new p).counter (counters-kept n old new messages me others links h p),
    )

    -- a REQUEST, a REDUCE
    pub links-taken : is_token m ≡ false → (new me).counter ≡ (old me).counter → (new me).lender ≡ (old me).lender → (new me).link ≡ (old me).link
        → Links n new (remove k messages)
    links-taken t c l j =
        links-kept n old new messages (remove k messages) links (grows-still t (omega (arith, c))) (counters-kept n old new messages me others links (omega (arith, c)))
        fewer (λ p b lp lb e. inl (owes-kept n old new messages me others links l j p b e))
        (λ w i h x y g e. inl (owes-kept n old new messages me others links l j w.«from» w.to e))

    -- "REDUCE" changes no lender and no number
    pub links-reduce : (l j : ℕ) → m ≡ msg.Reduce l j → new me ≡ reduced (old me) a l j → Links n new (remove k messages)
    unfolding is_token
    links-reduce l j e here =
        reduced-either (old me) a l j (λ (r : Room). new me ≡ r → Links n new (remove k messages))
        (λ z. λ q. links-taken (rw e refl) (rw q refl) (rw q refl) (rw q refl)) (λ z. λ q. links-taken (rw e refl) (rw q refl) (rw q refl) (rw q refl)) here

    -- A room with one GRANT or TOKEN under way to it has no other.
    module _ (ungranted : (w : Wire) → Mem w (remove k messages) → w.to ≡ me → (x y : ℕ) → w.message ≡ msg.Grant x y → ⊥) where
      loans : (w : Wire) → Mem w (remove k messages) → Mem w messages → (x y : ℕ) → w.message ≡ msg.Grant x y → (new w.to).lender ≡ Some w.«from»
          → Owes (old w.to) (new w.to) w.«from» ⊎ (y ≢ (new w.to).link)
      loans w j i x y g e =
          ⊎_elim (λ q. absurd (ungranted w j q x y g)) (λ q. inl (owes-other n old new messages me others links w.«from» w.to q e)) (same? w.to me)

      -- "GRANT: .. Then lender a, the new link number"
      pub links-grant : (j l : ℕ) → m ≡ msg.Grant j l → new me ≡ with_debt (with_modes (old me) j 0) (lender_in a) j l → a ≢ me → Mem (wire a me m) messages
          → Links n new (remove k messages)
      unfolding is_token
      links-grant j l e here other i =
          links-kept n old new messages (remove k messages) links grows (counters-kept n old new messages me others links (rw here (omega arith))) fewer
          (λ p c lp lc q. ⊎_elim (λ z. inr (rw z (own p (rw z at q)))) (λ z. inl (owes-other n old new messages me others links p c z q)) (same? c me))
          loans
        where
          grows : (p c : ℕ) → reach old messages p c ≤ reach new (remove k messages) p c
          grows = grows-still (rw e refl) (rw here (omega arith))

          own : (p : ℕ) → (new me).lender ≡ Some p → (new me).link ≤ reach new (remove k messages) p me
          own p q =
              let lent : a ≡ p = sym (lender-named a p (sym (ap (λ (r : Room). r.lender) here) ∙ q)) in
              let number : (new me).link ≡ l = ap (λ (r : Room). r.link) here in
              rw (← lent)
              (omega (arith, number, links.grant (wire a me m) i j l e, reach-up me a messages (old a).counter, grows a me))

      -- "TOKEN: .. then no lender, .. its counter is the larger of its own and the link number"
      pub links-token : (j rest l : ℕ) → m ≡ msg.Token j rest l → new me ≡ tokened_by (old me) me a j rest l → n ≤ room_limit
          → Links n new (remove k messages)
      unfolding tokened_by lift
      links-token j rest l e here small =
          links-kept n old new messages (remove k messages) links grows (counters-kept n old new messages me others links up) fewer
          (λ p c lp lc q. ⊎_elim (λ z. absurd (none-some p (sym (ap (λ (c : ℕ). (new c).lender) z ∙ ap (λ (r : Room). r.lender) here) ∙ q)))
          (λ z. inl (owes-other n old new messages me others links p c z q)) (same? c me))
          loans
        where
          count : (new me).counter ≡ lifted (old me).counter l
          count = rw here refl

          up : (old me).counter ≤ (new me).counter
          up = omega (arith, count, lifted_own (old me).counter l)

          grows : (p c : ℕ) → reach old messages p c ≤ reach new (remove k messages) p c
          grows p c = go (same? p me) (same? c a)
            where
              far : (a ≢ c) ⊎ (me ≢ p) → reach old messages p c ≤ reach new (remove k messages) p c
              far d = omega (
                arith,
                gone-other messages k a me m o lift c p d (new p).counter,
                reach-more c p messages (old p).counter (new p).counter (counters-kept n old new messages me others links up p),
              )

              near : reach new (remove k messages) me a ≡ reach old messages me a
              near =
                  ap (λ (v : ℕ). folds (arriving lift a me) v (remove k messages)) (count ∙ sym (ap (lift (old me).counter) e))
                  ∙ gone-first messages k a me m o lift (old me).counter

              go : (p ≡ me) ⊎ (p ≢ me) → (c ≡ a) ⊎ (c ≢ a) → reach old messages p c ≤ reach new (remove k messages) p c
              go (inl x) (inl y) = rw (x, y) (omega (arith, near))
              go (inl x) (inr y) = far (inl (λ z. y (sym z)))
              go (inr x) y = far (inr (λ z. x (sym z)))
