-- LINKS is kept by each change: no counter falls, and each new number is one that was just counted to.
use Rattle.std.specs.Prelude.{◌≡◌, refl, ◌≢◌, ◌⊎◌, Bool, true, false, List, [], ◌∷◌, ◌++◌}
use Rattle.std.proofs.Common.{sym, ◌∙◌, ap, arith}
use Rattle.std.proofs.Math.Logic.{inl, inr, ⊎_elim}
use Prim.Native.Nat.{ℕ, ◌≤◌, ◌<◌}
use Rattle.std.proofs.lemmas.Option.{none-some}
use Rattle.base.specs.Sums.{same?}
use Rattle.base.specs.Lists.{Mem, mem-snoc}
use Rattle.std.specs.Prelude.{Some, None}
use Rattle.room.specs.declared.Room.{Room}
use Rattle.room.specs.Limits.{room_limit}
use Rattle.room.specs.Record.{with_modes}
use Rattle.room.specs.Rules.{next_link, lent_to, left, remaining, passed_to}
use Rattle.room.proofs.Lenders.{lender-named}
use Rattle.table.specs.declared.Wire.{Wire}
use Rattle.table.specs.declared.Message.TheVariants as msg
use Rattle.table.specs.Oldest.{between}
use Rattle.table.specs.Formed.{is_token}
use Rattle.facts.specs.Wires.{wire}
use Rattle.facts.specs.Cases.{passed-either}
use Rattle.ledger.specs.Links.{lift, reach, Links}
use Rattle.ledger.proofs.Arrivals.{arriving-this, more}
use Rattle.ledger.proofs.Frames.{alike, same-wire}
use Rattle.ledger.proofs.Reach.{lifted-link, reach-more, reach-sent, reach-still}

-- what LINKS says of one message
pub record Linked (rooms : ℕ → Room) (messages : List Wire) (w : Wire) : Type 0 where
  pub reduce : (l m : ℕ) → w.message ≡ msg.Reduce l m → l ≤ reach rooms messages w.to w.«from»
  pub grant : (m l : ℕ) → w.message ≡ msg.Grant m l → l ≤ (rooms w.«from»).counter
  pub differs : (m l : ℕ) → w.message ≡ msg.Grant m l → (rooms w.to).lender ≡ Some w.«from» → l ≢ (rooms w.to).link

-- it says nothing of a REQUEST and of a TOKEN
pub silent-request : (rooms : ℕ → Room) (messages : List Wire) (x y o m : ℕ) (idle : Bool) → Linked rooms messages (wire x y (msg.Request o m idle))
silent-request rooms messages x y o m idle =
    record {
      reduce = λ l k e. let z : ◌≡◌ {A = ℕ} 0 1 = cc in absurd (omega arith);
      grant = λ k l e. let z : ◌≡◌ {A = ℕ} 0 1 = cc in absurd (omega arith);
      differs = λ k l e. let z : ◌≡◌ {A = ℕ} 0 1 = cc in absurd (omega arith);
    }

silent-token : (rooms : ℕ → Room) (messages : List Wire) (x y m rest l : ℕ) → Linked rooms messages (wire x y (msg.Token m rest l))
silent-token rooms messages x y m rest l =
    record {
      reduce = λ k j e. let z : ◌≡◌ {A = ℕ} 0 1 = cc in absurd (omega arith);
      grant = λ k j e. let z : ◌≡◌ {A = ℕ} 0 1 = cc in absurd (omega arith);
      differs = λ k j e. let z : ◌≡◌ {A = ℕ} 0 1 = cc in absurd (omega arith);
    }

-- a room owes what it owed before
abbrev pub Owes : Room → Room → ℕ → Type 0
Owes old new p = (old.lender ≡ Some p) × (new.link ≡ old.link)

module _ (n : ℕ) (old new : ℕ → Room) (messages after : List Wire) (links : Links n old messages)
    (grows : (p c : ℕ) → reach old messages p c ≤ reach new after p c) (counters : (c : ℕ) → (old c).counter ≤ (new c).counter)
    (sent : (w : Wire) → Mem w after → Mem w messages ⊎ Linked new after w)
    (debts : (p c : ℕ) → p < n → c < n → (new c).lender ≡ Some p → Owes (old c) (new c) p ⊎ ((new c).link ≤ reach new after p c))
    (loans : (w : Wire) → Mem w after → Mem w messages → (m l : ℕ) → w.message ≡ msg.Grant m l → (new w.to).lender ≡ Some w.«from»
    → Owes (old w.to) (new w.to) w.«from» ⊎ (l ≢ (new w.to).link)) where
  was : (w : Wire) → Mem w after → Mem w messages → Linked new after w
  was w j i =
      record {
        reduce = λ l m e. omega (arith, links.reduce w i l m e, grows w.to w.«from»);
        grant = λ m l e. omega (arith, links.grant w i m l e, counters w.«from»);
        differs = λ m l e b. ⊎_elim (λ o z. links.differs w i m l e o.0 (z ∙ o.1)) (λ d. d) (loans w j i m l e b);
      }

  each : (w : Wire) → Mem w after → Linked new after w
  each w i = ⊎_elim (was w i) (λ g. g) (sent w i)

  pub links-kept : Links n new after
  links-kept =
      record {
        reduce = λ w i. (each w i).reduce;
        debt = λ p c lp lc e. ⊎_elim (λ o. omega (arith, links.debt p c lp lc o.0, o.1, grows p c)) (λ b. b) (debts p c lp lc e);
        grant = λ w i. (each w i).grant;
        differs = λ w i. (each w i).differs;
      }

module _ (n : ℕ) (old new : ℕ → Room) (messages : List Wire) (me : ℕ) (others : (c : ℕ) → c ≢ me → new c ≡ old c) (links : Links n old messages) where
  -- a counter that has not fallen in the changed record has fallen nowhere
  pub counters-kept : (old me).counter ≤ (new me).counter → (c : ℕ) → (old c).counter ≤ (new c).counter
  counters-kept h c =
      ⊎_elim (λ e. rw e h) (λ e. omega (arith, ap (λ (r : Room). r.counter) (others c e))) (same? c me)

  -- a lender and a link number that are as they were in the changed record are so everywhere
  pub owes-kept : (new me).lender ≡ (old me).lender → (new me).link ≡ (old me).link → (p c : ℕ) → (new c).lender ≡ Some p → Owes (old c) (new c) p
  owes-kept l k p c e = (sym (alike old new me others (λ r. r.lender) l c) ∙ e, alike old new me others (λ r. r.link) k c)

  -- and so they are in rooms other than the changed one
  pub owes-other : (p c : ℕ) → c ≢ me → (new c).lender ≡ Some p → Owes (old c) (new c) p
  owes-other p c d e = (sym (ap (λ (r : Room). r.lender) (others c d)) ∙ e, ap (λ (r : Room). r.link) (others c d))

  -- a message more
  module _ (w : Wire) (h : (old me).counter ≤ (new me).counter) where
    pub grows-sent : (p c : ℕ) → reach old messages p c ≤ reach new (messages ++ (w ∷ [])) p c
    grows-sent p c =
        omega (arith, reach-more c p messages (old p).counter (new p).counter (counters-kept h p), reach-sent c p messages w (new p).counter)

    pub either : Linked new (messages ++ (w ∷ [])) w → (v : Wire) → Mem v (messages ++ (w ∷ [])) → Mem v messages ⊎ Linked new (messages ++ (w ∷ [])) v
    either g v i = ⊎_elim inl (λ e. inr (rw e g)) (mem-snoc messages w i)

  -- modes held and wanted
  pub links-modes : (h v : ℕ) → new me ≡ with_modes (old me) h v → Links n new messages
  links-modes h v here =
      links-kept n old new messages messages links
      (λ p c. reach-more c p messages (old p).counter (new p).counter (counters-kept (rw here (omega arith)) p)) (counters-kept (rw here (omega arith)))
      (λ w i. inl i) (λ p c lp lc e. inl (owes-kept (rw here refl) (rw here refl) p c e))
      (λ w j i m l k e. inl (owes-kept (rw here refl) (rw here refl) w.«from» w.to e))

  -- "Lend m to y": y's old loan, if any, has a smaller number
  pub links-lend : (y m : ℕ) → new me ≡ lent_to (old me) y m → (old me).counter < next_link (old me).counter → y < n → me < n → y ≢ me
      → ((w : Wire) → Mem w messages → between y me w ≡ true → is_token w.message ≡ false)
      → Links n new (messages ++ (wire me y (msg.Grant m (next_link (old me).counter)) ∷ []))
  unfolding lent_to
  links-lend y m here up low own other none =
      links-kept n old new messages (messages ++ (grant ∷ [])) links (grows-sent grant (omega (arith, count))) (counters-kept (omega (arith, count)))
      (either grant (omega (arith, count)) new-loan)
      (λ p c lp lc e. inl (owes-kept (rw here refl) (rw here refl) p c e)) (λ w j i k l g e. inl (owes-kept (rw here refl) (rw here refl) w.«from» w.to e))
    where
      link : ℕ
      link = next_link (old me).counter

      grant : Wire
      grant = wire me y (msg.Grant m link)

      count : (new me).counter ≡ link
      count = rw here refl

      -- what y owes me has been counted to
      older : (old y).lender ≡ Some me → (old y).link < link
      older e = omega (arith, links.debt me y own low e, reach-still y me messages none (old me).counter)

      new-loan : Linked new (messages ++ (grant ∷ [])) grant
      new-loan =
          record {
            reduce = λ l k e. let z : ◌≡◌ {A = ℕ} 0 1 = cc in absurd (omega arith);
            grant = λ k l e. let q : link ≡ l = cc in omega (arith, count);
            differs = λ k l e b z.
                let q : link ≡ l = cc in
                omega (arith, older (sym (ap (λ (r : Room). r.lender) (others y other)) ∙ b), ap (λ (r : Room). r.link) (others y other));
          }

  -- "Passing to w": what remains is owed under the TOKEN's own number
  pub links-pass : (y m : ℕ) → new me ≡ passed_to (old me) y → (old me).counter ≤ next_link (old me).counter → n ≤ room_limit → (old me).lender ≡ None
      → ((w : Wire) → Mem w messages → w.to ≡ me → (k l : ℕ) → w.message ≡ msg.Grant k l → ⊥)
      → Links n new (messages ++ (wire me y (msg.Token m (remaining (old me) y) (next_link (old me).counter)) ∷ []))
  unfolding left lift
  links-pass y m here up small free ungranted =
      links-kept n old new messages (messages ++ (token ∷ [])) links (grows-sent token (omega (arith, count))) (counters-kept (omega (arith, count)))
      (either token (omega (arith, count)) (silent-token new (messages ++ (token ∷ [])) me y m (remaining (old me) y) link))
      (λ p c lp lc e. ⊎_elim (λ q. inr (rw q (own p lp (rw q at e)))) (λ q. inl (owes-other p c q e)) (same? c me))
      (λ w j i k l g e. ⊎_elim (λ q. absurd (ungranted w i q k l g)) (λ q. inl (owes-other w.«from» w.to q e)) (same? w.to me))
    where
      link : ℕ
      link = next_link (old me).counter

      token : Wire
      token = wire me y (msg.Token m (remaining (old me) y) link)

      count : (new me).counter ≡ link
      count = rw here (passed-either (old me) y (λ (r : Room). r.counter ≡ link) (λ e. refl) (λ e. refl))

      reaches : link ≤ reach new (messages ++ (token ∷ [])) y me
      reaches =
          rw (more lift me y (new y).counter messages token, arriving-this lift me y token (same-wire me y token refl refl) (reach new messages y me))
          (lifted-link (reach new messages y me) link)

      own : (p : ℕ) → p < n → (new me).lender ≡ Some p → (new me).link ≤ reach new (messages ++ (token ∷ [])) p me
      own p lp e =
          passed-either (old me) y (λ (r : Room). new me ≡ r → (new me).link ≤ reach new (messages ++ (token ∷ [])) p me)
          (λ z. λ q. absurd (none-some p (sym (ap (λ (r : Room). r.lender) q ∙ free) ∙ e)))
          (λ z. λ q. rw (lender-named y p (sym (ap (λ (r : Room). r.lender) q) ∙ e), ap (λ (r : Room). r.link) q) reaches)
          here
