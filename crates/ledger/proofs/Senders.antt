-- SENDER is kept by each change: messages keep their order, the sender of a TOKEN asks behind it, and no counter falls.
use Rattle.std.specs.Prelude.{◌≡◌, refl, ◌≢◌, ◌⊎◌, Bool, true, false, List, [], ◌∷◌, ◌++◌, ℕ, zero, suc, ◌+◌, ◌≤◌, ◌<◌, length, get_or}
use Rattle.std.proofs.Common.{sym, ◌∙◌, ap, inl, inr, ⊎_elim, not-suc-le-zero, le_of_suc-le-suc, arith, length-append}
use Rattle.std.proofs.Math.ListN.{get_or-append}
use Rattle.std.proofs.lemmas.List.{get_or_at}
use Rattle.base.specs.Tests.{clash}
use Rattle.base.specs.Sums.{below?}
use Rattle.base.specs.Lists.{Mem, mem-at, mem-place, mem-snoc, remove, mem-remove}
use Rattle.room.specs.declared.Room.{Room}
use Rattle.room.specs.Rules.{next_link, left, remaining, passed_to}
use Rattle.table.specs.declared.Wire.{Wire}
use Rattle.table.specs.declared.Message.{Message}
use Rattle.table.specs.declared.Message.TheVariants as msg
use Rattle.table.specs.Tables.{no_wire}
use Rattle.table.specs.Oldest.{between}
use Rattle.table.specs.Formed.{is_token}
use Rattle.facts.specs.Wires.{wire}
use Rattle.facts.specs.Cases.{passed-either}
use Rattle.ledger.specs.Links.{Along, Sender}
use Rattle.ledger.proofs.Frames.{same-wire, sender-is, receiver-is}
use Rattle.ledger.proofs.Takes.{Oldest}

-- a TOKEN is no REQUEST
token-other : (m rest l o k : ℕ) (idle : Bool) → msg.Token m rest l ≡ msg.Request o k idle → ⊥
token-other m rest l o k idle e = let z : ◌≡◌ {A = ℕ} 0 1 = cc in absurd (omega arith)

token-is : (v : Message) (m rest l : ℕ) → v ≡ msg.Token m rest l → is_token v ≡ true
unfolding is_token
token-is v m rest l e = rw e refl

no-token {ℓ} : {C : Type ℓ} (v : Message) → is_token v ≡ false → (m rest l : ℕ) → v ≡ msg.Token m rest l → C
no-token v h m rest l e = clash (token-is v m rest l e) h

-- no TOKEN, and nothing is said
pub sender-none : (rooms : ℕ → Room) (messages : List Wire) → ((w : Wire) → Mem w messages → is_token w.message ≡ false) → Sender rooms messages
sender-none rooms messages none =
    record {
      toward = λ w i m rest l e. no-token w.message (none w i) m rest l e;
      counted = λ w i m rest l e. no-token w.message (none w i) m rest l e;
      along = λ w v i j m rest l e. no-token w.message (none w i) m rest l e;
      behind = λ i j li lj m rest l e. no-token (get_or messages i no_wire).message (none (get_or messages i no_wire) (mem-at messages i no_wire li)) m rest l e;
    }

-- the places of a list without the element at k
skip : ℕ → ℕ → ℕ
skip zero i = suc i
skip (suc k) zero = zero
skip (suc k) (suc i) = suc (skip k i)

skip-there : (l : List Wire) (k i : ℕ) → k < length l → i < length (remove k l) → (get_or (remove k l) i no_wire ≡ get_or l (skip k i) no_wire) × (skip k i < length l)
unfolding remove skip
skip-there [] k i h j = absurd (not-suc-le-zero h)
skip-there (x ∷ l) zero i h j = (refl, omega arith)
skip-there (x ∷ l) (suc k) zero h j = (refl, omega arith)
skip-there (x ∷ l) (suc k) (suc i) h j = let r = skip-there l k i (le_of_suc-le-suc h) (le_of_suc-le-suc j) in (r.0, omega (arith, r.1))

skip-order : (k i j : ℕ) → skip k i < skip k j → i < j
unfolding skip
skip-order zero i j h = le_of_suc-le-suc h
skip-order (suc k) zero zero h = absurd (omega arith)
skip-order (suc k) zero (suc j) h = omega arith
skip-order (suc k) (suc i) zero h = absurd (omega arith)
skip-order (suc k) (suc i) (suc j) h = omega (arith, skip-order k i j (le_of_suc-le-suc h))

module _ (old new : ℕ → Room) (messages : List Wire) (sender : Sender old messages) (towards : (c : ℕ) → (new c).toward ≡ (old c).toward)
    (counters : (c : ℕ) → (old c).counter ≤ (new c).counter) where
  -- the messages as they were
  pub sender-same : Sender new messages
  sender-same =
      record {
        toward = λ w i m rest l e. towards w.«from» ∙ sender.toward w i m rest l e;
        counted = λ w i m rest l e. omega (arith, sender.counted w i m rest l e, counters w.«from»);
        along = sender.along;
        behind = sender.behind;
      }

  -- a message taken off
  pub sender-taken : (k : ℕ) → k < length messages → Sender new (remove k messages)
  sender-taken k low =
      record {
        toward = λ w i. sender-same.toward w (mem-remove k messages i);
        counted = λ w i. sender-same.counted w (mem-remove k messages i);
        along = λ w v i j. sender.along w v (mem-remove k messages i) (mem-remove k messages j);
        behind = λ i j li lj m rest l e o h idle f g.
            let at = skip-there messages k i low li in
            let by = skip-there messages k j low lj in
            skip-order k i j
            (sender.behind (skip k i) (skip k j) at.1 by.1 m rest l (ap (λ (w : Wire). w.message) (sym at.0) ∙ e) o h idle
            (ap (λ (w : Wire). w.message) (sym by.0) ∙ f) (g ∙ ap (λ (w : Wire). w.«from») at.0));
      }

  -- a message more that is no TOKEN, and if a REQUEST then not of the TOKEN's sender, or on its wire
  module _ (x : Wire) (no : is_token x.message ≡ false) (fits : (w : Wire) → Mem w messages → Along w x) where
    long : length (messages ++ (x ∷ [])) ≡ length messages + 1
    long = length-append messages (x ∷ [])

    -- a TOKEN among them was there before
    was : (w : Wire) → Mem w (messages ++ (x ∷ [])) → (m rest l : ℕ) → w.message ≡ msg.Token m rest l → Mem w messages
    was w i m rest l e =
        ⊎_elim (λ j. j) (λ q. clash (token-is x.message m rest l (ap (λ (w : Wire). w.message) (sym q) ∙ e)) no) (mem-snoc messages x i)

    at_low : (i : ℕ) → i < length messages → get_or (messages ++ (x ∷ [])) i no_wire ≡ get_or messages i no_wire
    at_low i h = get_or-append messages (x ∷ []) no_wire i h

    at-end : get_or (messages ++ (x ∷ [])) (length messages) no_wire ≡ x
    at-end = get_or_at messages x [] no_wire (length messages) refl

    behind-sent : (i j : ℕ) → i < length (messages ++ (x ∷ [])) → j < length (messages ++ (x ∷ [])) → (m rest l : ℕ)
        → (get_or (messages ++ (x ∷ [])) i no_wire).message ≡ msg.Token m rest l → (o k : ℕ) (idle : Bool)
        → (get_or (messages ++ (x ∷ [])) j no_wire).message ≡ msg.Request o k idle → o ≡ (get_or (messages ++ (x ∷ [])) i no_wire).«from» → i < j
    behind-sent i j li lj m rest l e o k idle f g = go (below? i (length messages)) (below? j (length messages))
      where
        end : (h : ℕ) → h < length (messages ++ (x ∷ [])) → length messages ≤ h → h ≡ length messages
        end h b c = omega (arith, long)

        go : (i < length messages) ⊎ (length messages ≤ i) → (j < length messages) ⊎ (length messages ≤ j) → i < j
        go (inl a) (inl b) =
            sender.behind i j a b m rest l (ap (λ (w : Wire). w.message) (sym (at_low i a)) ∙ e) o k idle
            (ap (λ (w : Wire). w.message) (sym (at_low j b)) ∙ f) (g ∙ ap (λ (w : Wire). w.«from») (at_low i a))
        go (inl a) (inr b) = omega arith
        go (inr a) b =
            let q : get_or (messages ++ (x ∷ [])) i no_wire ≡ x = ap (λ (h : ℕ). get_or (messages ++ (x ∷ [])) h no_wire) (end i li a) ∙ at-end in
            clash (token-is x.message m rest l (ap (λ (w : Wire). w.message) (sym q) ∙ e)) no

    pub sender-sent : Sender new (messages ++ (x ∷ []))
    sender-sent =
        record {
          toward = λ w i m rest l e. sender-same.toward w (was w i m rest l e) m rest l e;
          counted = λ w i m rest l e. sender-same.counted w (was w i m rest l e) m rest l e;
          along = λ w v i j m rest l e o k idle f g.
              ⊎_elim (λ h. sender.along w v (was w i m rest l e) h m rest l e o k idle f g)
              (λ q. rw q (fits w (was w i m rest l e) m rest l e o k idle (ap (λ (w : Wire). w.message) (sym q) ∙ f) g)) (mem-snoc messages x j);
          behind = behind-sent;
        }

-- "Passing to w .. toward is w": the only TOKEN, and no REQUEST of its sender is under way
module _ (old new : ℕ → Room) (messages : List Wire) (me y m : ℕ) (here : new me ≡ passed_to (old me) y)
    (none : (w : Wire) → Mem w messages → is_token w.message ≡ false)
    (unasked : (w : Wire) → Mem w messages → (k : ℕ) (idle : Bool) → w.message ≡ msg.Request me k idle → ⊥) where
  pub sender-pass : Sender new (messages ++ (wire me y (msg.Token m (remaining (old me) y) (next_link (old me).counter)) ∷ []))
  unfolding left
  sender-pass =
      record {
        toward = λ w i j rest l e. rw (is w i j rest l e) toward-new;
        counted = λ w i j rest l e.
            let q = is w i j rest l e in
            let number : next_link (old me).counter ≡ l = cc in
            rw q (omega (arith, number, count));
        along = λ w v i j h rest l e o k idle f g. absurd (asked w v i j h rest l e o k idle f g);
        behind = λ i j li lj h rest l e o k idle f g.
            absurd (asked (get_or all i no_wire) (get_or all j no_wire) (mem-at all i no_wire li) (mem-at all j no_wire lj) h rest l e o k idle f g);
      }
    where
      token : Wire
      token = wire me y (msg.Token m (remaining (old me) y) (next_link (old me).counter))

      all : List Wire
      all = messages ++ (token ∷ [])

      is : (w : Wire) → Mem w all → (j rest l : ℕ) → w.message ≡ msg.Token j rest l → w ≡ token
      is w i j rest l e = ⊎_elim (λ h. clash (token-is w.message j rest l e) (none w h)) (λ q. q) (mem-snoc messages token i)

      toward-new : (new me).toward ≡ y
      toward-new =
          rw here (passed-either (old me) y (λ (r : Room). r.toward ≡ y) (λ e. refl) (λ e. refl))

      count : (new me).counter ≡ next_link (old me).counter
      count = rw here (passed-either (old me) y (λ (r : Room). r.counter ≡ next_link (old me).counter) (λ e. refl) (λ e. refl))

      asked : (w v : Wire) → Mem w all → Mem v all → (h rest l : ℕ) → w.message ≡ msg.Token h rest l → (o k : ℕ) (idle : Bool)
          → v.message ≡ msg.Request o k idle → o ≡ w.«from» → ⊥
      asked w v i j h rest l e o k idle f g =
          let own : o ≡ me = g ∙ ap (λ (w : Wire). w.«from») (is w i h rest l e) in
          ⊎_elim (λ b. unasked v b k idle (f ∙ ap (λ (c : ℕ). msg.Request c k idle) own))
          (λ q. token-other m (remaining (old me) y) (next_link (old me).counter) o k idle (ap (λ (w : Wire). w.message) (sym q) ∙ f)) (mem-snoc messages token j)

-- The oldest message of a wire, if it is a REQUEST, was not begun by the sender of a TOKEN: that TOKEN would stand before it.
pub not-sender : (rooms : ℕ → Room) (messages : List Wire) → Sender rooms messages → (k a b o m : ℕ) (idle : Bool)
    → Oldest messages k a b (msg.Request o m idle) → (w : Wire) → Mem w messages → (j rest l : ℕ) → w.message ≡ msg.Token j rest l → w.«from» ≢ o
not-sender rooms messages sender k a b o m idle at w i j rest l e q = go (mem-place messages no_wire w i)
  where
    request : Wire
    request = get_or messages k no_wire

    kind : request.message ≡ msg.Request o m idle
    kind = ap (λ (w : Wire). w.message) at.there

    on : between w.«from» w.to request ≡ true
    on = sender.along w request i (mem-at messages k no_wire at.low) j rest l e o m idle kind (sym q)

    sender-same-as : w.«from» ≡ a
    sender-same-as = sym (sender-is w.«from» w.to request on) ∙ ap (λ (w : Wire). w.«from») at.there

    receiver-same-as : w.to ≡ b
    receiver-same-as = sym (receiver-is w.«from» w.to request on) ∙ ap (λ (w : Wire). w.to) at.there

    go : (p : ℕ) × (p < length messages) × (w ≡ get_or messages p no_wire) → ⊥
    go (p, low, there) =
        clash (same-wire a b (get_or messages p no_wire) (ap (λ (w : Wire). w.«from») (sym there) ∙ sender-same-as) (ap (λ (w : Wire). w.to) (sym there) ∙ receiver-same-as))
        (at.first p
        (sender.behind p k low at.low j rest l (ap (λ (w : Wire). w.message) (sym there) ∙ e) o m idle kind (sym q ∙ ap (λ (w : Wire). w.«from») there)))
