-- The measure where names move and no room's record changes: a REQUEST taken off, sent on, the queue shorter or longer.
use Rattle.std.specs.Prelude.{◌≡◌, Bool, true, false, ◌&&◌, List, [], ◌∷◌, ◌++◌, eqb}
use Rattle.std.proofs.Math.Path.{refl}
use Rattle.std.proofs.Common.{sym, ◌∙◌, ap, ⊎_elim, eqb-true}
use Rattle.std.proofs.lemmas.Bool.{false≢true}
use mathlib.Core.List.Memᴰ
use Prim.Native.Nat.{ℕ, ◌+◌, ◌≤◌, ◌<◌}
use native.Mathlib.Omega.{arith}
use Rattle.std.proofs.Math.ListN.{length-append}
use Rattle.base.specs.Choice.{split}
use Rattle.base.specs.Tests.{clash, and_left, and_right}
use Rattle.base.specs.Sums.{one}
use Rattle.base.specs.Folds.{folds}
use Rattle.base.specs.Lists.{total, Mem, remove}
use Rattle.room.specs.declared.Room.{Room}
use Rattle.table.specs.declared.Wire.{Wire}
use Rattle.table.specs.declared.Queued.{Queued}
use Rattle.table.specs.declared.Message.{Message}
use Rattle.table.specs.declared.Message.TheVariants as msg
use Rattle.table.specs.Formed.{is_token}
use Rattle.facts.specs.Wires.{wire}
use Rattle.ledger.proofs.Frames.{same-wire}
use Rattle.ledger.specs.Links.{Sender}
use Rattle.ledger.proofs.Senders.{sender-taken}
use Rattle.ledger.proofs.Takes.{Oldest}
use Rattle.facts.specs.Names.{is_request}
use Rattle.bounds.proofs.Weights.{requests-sent, requests-taken}
use Rattle.measure.specs.Way.{passing, Leads}
use Rattle.measure.specs.Heights.{leads-request-taken}
use Rattle.measure.specs.Measure.{pending, tokens_in, charge, follow, above, extra, pile, nothing, load, potential}
use Rattle.measure.proofs.Behind.{behind-there, behind-some}
use Rattle.measure.proofs.Piles.{pile-sent, pile-taken}
use Rattle.measure.proofs.Loads.{potential-at, tokens-sent, tokens-taken}

-- no TOKEN of room c is under way, if no message is one
passing-none : (c : ℕ) (l : List Wire) → ((w : Wire) → Mem w l → is_token w.message ≡ true → w.«from» ≡ c → ⊥) → passing c l ≡ 0
unfolding passing total
passing-none c [] never = refl
passing-none c (w ∷ l) never =
    split (is_token w.message && eqb w.«from» c)
    (λ e. absurd (never w (Memᴰ.head refl) (and_left _ _ e) (eqb-true _ _ (and_right (is_token w.message) _ e))))
    (λ e. omega (arith, ap one e, passing-none c l (λ v i. never v (Memᴰ.tail i))))

-- the sender of a TOKEN under way looks toward its receiver
token-toward : (rooms : ℕ → Room) (messages : List Wire) → Sender rooms messages → (w : Wire) → Mem w messages → is_token w.message ≡ true
    → (rooms w.«from»).toward ≡ w.to
unfolding is_token
token-toward rooms messages sender w i = go w.message refl
  where
    go : (m : Message) → w.message ≡ m → is_token m ≡ true → (rooms w.«from»).toward ≡ w.to
    go msg.Nothing e t = absurd (false≢true t)
    go (msg.Request o m idle) e t = absurd (false≢true t)
    go (msg.Grant m l) e t = absurd (false≢true t)
    go (msg.Token m rest l) e t = sender.toward w i m rest l e
    go (msg.Reduce l m) e t = absurd (false≢true t)

module _ (n : ℕ) (rooms : ℕ → Room) (queue : List Queued) (messages : List Wire) (hand : ℕ) (height : ℕ → ℕ) where
  -- the head of the queue is taken off
  pub potential-head-taken : (q : Queued) → potential n rooms queue messages (hand + 1) height ≡ potential n rooms (q ∷ queue) messages hand height
  unfolding potential
  potential-head-taken q =
      potential-at n rooms queue messages (hand + 1) height (pending (q ∷ queue) messages hand) (tokens_in messages) (omega arith) refl

  -- a room joins the end of the queue
  pub potential-joined : (q : Queued) → potential n rooms (queue ++ (q ∷ [])) messages hand height ≡ potential n rooms queue messages (hand + 1) height
  unfolding potential
  potential-joined q =
      potential-at n rooms (queue ++ (q ∷ [])) messages hand height (pending queue messages (hand + 1)) (tokens_in messages)
      (omega (arith, length-append queue (q ∷ []))) refl

  -- a REQUEST to b, taken off its wire
  module _ (k a b o m : ℕ) (idle : Bool) (oldest : Oldest messages k a b (msg.Request o m idle)) where
    pending-taken : pending queue (remove k messages) (hand + 1) ≡ pending queue messages hand
    unfolding is_request
    pending-taken = omega (arith, requests-taken messages k a b (msg.Request o m idle) oldest.low oldest.there)

    tokens-same : tokens_in (remove k messages) ≡ tokens_in messages
    unfolding is_token
    tokens-same = omega (arith, tokens-taken messages k a b (msg.Request o m idle) oldest.low oldest.there)

    -- it costs its share no more, nor what came on top
    potential-request-taken : potential n rooms queue (remove k messages) (hand + 1) height
        + (pending queue messages hand + height b + tokens_in messages) ≡ potential n rooms queue messages hand height
    unfolding potential load charge is_token above
    potential-request-taken = omega (
      arith,
      potential-at n rooms queue (remove k messages) (hand + 1) height (pending queue messages hand) (tokens_in messages) pending-taken tokens-same,
      pile-taken height (pending queue messages hand) (tokens_in messages) messages nothing k a b (msg.Request o m idle) oldest.low
          oldest.there refl refl oldest.first,
    )

    -- its share counts its own name
    pub falls-request-taken : potential n rooms queue (remove k messages) (hand + 1) height < potential n rooms queue messages hand height
    falls-request-taken = omega (arith, potential-request-taken, pending-taken)

  -- A REQUEST in hand at b, a room without the token, is sent on to where b looks.
  module _ (b o m : ℕ) (idle : Bool) (low : b < n) (without : (rooms b).token ≡ false) (leads : Leads n rooms messages height)
      (sender : Sender rooms messages) where
    abbrev sent : Wire
    sent = wire b (rooms b).toward (msg.Request o m idle)

    -- to a lower room; or behind the TOKEN that b has sent
    pub potential-request-sent : potential n rooms queue (messages ++ (wire b (rooms b).toward (msg.Request o m idle) ∷ [])) hand height + 1
        ≤ potential n rooms queue messages (hand + 1) height + (pending queue messages (hand + 1) + height b + tokens_in messages)
    unfolding potential load charge is_token is_request above
    potential-request-sent = split (folds follow nothing messages sent) behind ahead
      where
        names : ℕ
        names = pending queue messages (hand + 1)

        flag : ℕ
        flag = tokens_in messages

        Lower : Type 0
        Lower =
            potential n rooms queue (messages ++ (sent ∷ [])) hand height + 1
            ≤ potential n rooms queue messages (hand + 1) height + (pending queue messages (hand + 1) + height b + tokens_in messages)

        now : potential n rooms queue (messages ++ (sent ∷ [])) hand height ≡ load n rooms (messages ++ (sent ∷ [])) height names flag
        now =
            potential-at n rooms queue (messages ++ (sent ∷ [])) hand height names flag
            (omega (arith, requests-sent messages b (rooms b).toward (msg.Request o m idle)))
            (omega (arith, tokens-sent messages b (rooms b).toward (msg.Request o m idle)))

        cost : ℕ
        cost = extra height flag (folds follow nothing messages) sent

        weighed : pile height names flag nothing (messages ++ (sent ∷ [])) ≡ pile height names flag nothing messages + (names + cost)
        weighed = pile-sent height names flag nothing messages sent

        behind : folds follow nothing messages sent ≡ true → Lower
        behind e =
            ⊎_elim (λ q. absurd (false≢true q))
            (λ q. omega (arith, now, weighed, ap (λ (t : Bool). above t (height sent.to) flag) e, q)) (behind-some messages nothing sent e)

        ahead : folds follow nothing messages sent ≡ false → Lower
        ahead e = omega (arith, now, weighed, ap (λ (t : Bool). above t (height sent.to) flag) e, leads b low without none)
          where
            -- a TOKEN of b would be on the way to where b looks
            none : passing b messages ≡ 0
            none =
                passing-none b messages λ w i t f.
                let looks : (rooms b).toward ≡ w.to = sym (ap (λ (c : ℕ). (rooms c).toward) f) ∙ token-toward rooms messages sender w i t in
                clash (behind-there messages nothing sent w i t (same-wire w.«from» w.to sent (sym f) looks)) e

-- A REQUEST taken off at b, which has not the token, and sent on to where b looks.
pub falls-sent-on : (n : ℕ) (rooms : ℕ → Room) (queue : List Queued) (messages : List Wire) (hand : ℕ) (height : ℕ → ℕ) (k a b o m : ℕ) (idle : Bool)
    → Oldest messages k a b (msg.Request o m idle) → b < n → (rooms b).token ≡ false → Leads n rooms messages height → Sender rooms messages
    → potential n rooms queue (remove k messages ++ (wire b (rooms b).toward (msg.Request o m idle) ∷ [])) hand height
    < potential n rooms queue messages hand height
falls-sent-on n rooms queue messages hand height k a b o m idle oldest low without leads sender = omega (
  arith,
  potential-request-taken n rooms queue messages hand height k a b o m idle oldest,
  pending-taken n rooms queue messages hand height k a b o m idle oldest,
  tokens-same n rooms queue messages hand height k a b o m idle oldest,
  potential-request-sent n rooms queue (remove k messages) hand height b o m idle low without
      (leads-request-taken n rooms messages height leads k a b o m idle oldest.low oldest.there)
      (sender-taken rooms rooms messages sender (λ c. refl) (λ c. omega arith) k oldest.low),
)
