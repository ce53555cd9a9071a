-- Every clause is kept where a GRANT, the TOKEN or a REDUCE arrives.
use Rattle.std.specs.Prelude.{◌≡◌, ◌≢◌, true, false, List, ◌++◌, ℕ, ◌≤◌, ◌<◌, length}
use Rattle.std.proofs.Math.Path.{refl}
use Rattle.std.proofs.Common.{sym, ◌∙◌, ap, ⊎_elim, append-nil, arith}
use Rattle.base.specs.Lists.{Mem, remove, mem-at}
use Rattle.std.specs.Prelude.{Option, Some}
use Rattle.modes.specs.Codes.{IR}
use Rattle.modes.specs.Under.{small}
use Rattle.room.specs.declared.Room.{Room}
use Rattle.room.specs.Limits.{room_limit}
use Rattle.room.specs.Record.{entry_of, with_modes, with_debt, set_entry, lender_of, lender_in}
use Rattle.room.specs.Rules.{tokened_by, reduced}
use Rattle.room.proofs.Lenders.{lender-within}
use Rattle.table.specs.declared.Wire.{Wire}
use Rattle.table.specs.declared.Queued.{Queued}
use Rattle.table.specs.declared.Message.{Message}
use Rattle.table.specs.declared.Message.TheVariants as msg
use Rattle.table.specs.Tables.{no_wire}
use Rattle.table.specs.Formed.{is_token}
use Rattle.facts.specs.Rooms.{RoomFacts}
use Rattle.facts.specs.Wires.{wire, leaving_sent}
use Rattle.facts.specs.Cases.{leaving-either, reduced-either}
use Rattle.ledger.specs.Links.{Sender}
use Rattle.ledger.proofs.Frames.{alike}
use Rattle.ledger.proofs.Takes.{Oldest, ledger-reduce}
use Rattle.ledger.proofs.Numbers.{counters-kept}
use Rattle.ledger.proofs.Received.{links-reduce}
use Rattle.ledger.proofs.Leaving.{granted-both, tokened-both}
use Rattle.ledger.proofs.Senders.{sender-none, sender-sent, sender-taken}
use Rattle.owning.specs.Clauses.{ReduceSmall}
use Rattle.owning.specs.Messages.{Unnamed, unnamed-grant, leaving-among, kind}
use Rattle.owning.proofs.Small.{small-grant, small-token, small-reduce}
use Rattle.owning.proofs.PairsKept.{pairs-grant, pairs-token, pairs-reduce}
use Rattle.owning.proofs.Fits.{fits-arrived, fits-reduce}
use Rattle.owning.proofs.Idle.{idle-arrived, idle-reduce}
use Rattle.tree.proofs.Kept.{grant-tree, token-tree, reduce-tree}
use Rattle.bounds.proofs.Messages.{messages-grant, messages-token, messages-reduce}
use Rattle.bounds.proofs.Counters.{counters-grant, counters-token, counters-reduce}
use Rattle.safe.specs.Invariant.{Clauses}

-- the REDUCE to a lender that is left is no TOKEN and no REQUEST
sender-leaving : (rooms : ℕ → Room) (messages : List Wire) (me : ℕ) (r : Room) (a : ℕ) → Sender rooms messages → Sender rooms (messages ++ leaving_sent me r a)
unfolding is_token
sender-leaving rooms messages me r a s =
    leaving-either me r a (λ (l : List Wire). Sender rooms (messages ++ l)) (rw (append-nil messages) s)
    (λ b. sender-sent rooms rooms messages s (λ c. refl) (λ c. omega arith) (wire me (lender_of r) (msg.Reduce r.link 0)) refl
    (λ w i j rest l e o h idle q. absurd (omega (arith, ap kind q))))

-- nor is anything behind it
quiet-leaving : (messages : List Wire) (me : ℕ) (r : Room) (a : ℕ) → ((w : Wire) → Mem w messages → is_token w.message ≡ false)
    → (w : Wire) → Mem w (messages ++ leaving_sent me r a) → is_token w.message ≡ false
unfolding is_token
quiet-leaving messages me r a none w i = ⊎_elim (none w) (λ e. ap (λ (w : Wire). is_token w.message) e) (leaving-among messages me r a w i)

module _ (n : ℕ) (old new : ℕ → Room) (queue : List Queued) (messages : List Wire) (me : ℕ) (low : me < n) (limit : n ≤ room_limit)
    (long : length (old me).entries ≡ room_limit) (others : (c : ℕ) → c ≢ me → new c ≡ old c) (facts : RoomFacts n me (old me)) (senders : (w : Wire) → Mem w messages → w.«from» < n)
    (hand : ℕ) (k : Clauses n old queue messages hand) (p a : ℕ) (from_low : a < n) (other : a ≢ me) where
  place : a < length (old me).entries
  place = omega (arith, long)

  there : (m : Message) → Oldest messages p a me m → Mem (wire a me m) messages
  there m o = rw (← o.there) (mem-at messages p no_wire o.low)

  -- "GRANT"
  pub clauses-grant : (m l : ℕ) → Oldest messages p a me (msg.Grant m l) → new me ≡ with_debt (with_modes (old me) m 0) (Some a) m l
      → Unnamed me (remove p messages) → small m ≡ true → Clauses n new queue (remove p messages ++ leaving_sent me (old me) a) hand
  clauses-grant m l o here unnamed weak =
      let both =
      granted-both n old new messages me low others limit facts senders k.ledger k.links p a from_low other place (msg.Grant m l) o
      (unnamed-grant me (remove p messages) unnamed) m l refl here in
      record {
        ledger = both.0;
        links = both.1;
        sender =
            sender-leaving new (remove p messages) me (old me) a
            (sender-taken old new messages k.sender (alike old new me others (λ r. r.toward) (rw here refl))
            (counters-kept n old new messages me others k.links (rw here (omega arith))) p o.low);
        small = small-grant n old new messages me low others k.small p a m l (Some a) here;
        pairs = pairs-grant n old new messages me low others k.pairs p a m l (Some a) here (k.fits (wire a me (msg.Grant m l)) (there (msg.Grant m l) o) m l refl) weak unnamed;
        fits = fits-arrived n old new messages me low others k.fits p a unnamed;
        idle = idle-arrived n old new messages me low others k.idle p a unnamed;
        tree = grant-tree n old new messages me low others k.tree p a m l o.low o.there (here ∙ named);
        few = messages-grant n old new messages me low others queue hand p a m l o.low o.there k.few;
        counters = counters-grant n old new messages me low others queue hand p a m l (Some a) o.low o.there here k.counters;
      }
    where
      -- the lender is the room that the sender's number names
      named : with_debt (with_modes (old me) m 0) (Some a) m l ≡ with_debt (with_modes (old me) m 0) (lender_in a) m l
      named = ap (λ (o : Option ℕ). with_debt (with_modes (old me) m 0) o m l) (sym (lender-within a n from_low limit))

  -- "TOKEN"
  pub clauses-token : (m rest l : ℕ) → Oldest messages p a me (msg.Token m rest l) → new me ≡ tokened_by (old me) me a m rest l
      → Unnamed me (remove p messages) → ((w : Wire) → Mem w (remove p messages) → is_token w.message ≡ false)
      → Clauses n new queue (remove p messages ++ leaving_sent me (old me) a) hand
  unfolding tokened_by
  clauses-token m rest l o here unnamed none =
      let both =
      tokened-both n old new messages me low others limit facts senders k.ledger k.links p a from_low other place (msg.Token m rest l) o
      (unnamed-grant me (remove p messages) unnamed) m rest l refl here in
      record {
        ledger = both.0;
        links = both.1;
        sender = sender-none new (remove p messages ++ leaving_sent me (old me) a) (quiet-leaving (remove p messages) me (old me) a none);
        small = small-token n old new messages me low others k.small limit long a from_low p m rest l o.low o.there here;
        pairs = pairs-token n old new messages me low others k.pairs limit long a from_low p m rest l o.low o.there here unnamed;
        fits = fits-arrived n old new messages me low others k.fits p a unnamed;
        idle = idle-arrived n old new messages me low others k.idle p a unnamed;
        tree = token-tree n old new messages me low others k.tree p a m rest l o.there here;
        few = messages-token n old new messages me low others queue hand p a m rest l o.low o.there here k.few;
        counters =
            counters-token n old new messages me low others queue hand p a m rest l o.low o.there from_low
            (k.sender.counted (wire a me (msg.Token m rest l)) (there (msg.Token m rest l) o) m rest l refl) here k.counters;
      }

  -- "REDUCE"
  pub clauses-reduce : (l m : ℕ) → Oldest messages p a me (msg.Reduce l m) → new me ≡ reduced (old me) a l m → Clauses n new queue (remove p messages) hand
  clauses-reduce l m o here =
      let new-mode : ReduceSmall (wire a me (msg.Reduce l m)) = k.small.new (wire a me (msg.Reduce l m)) (there (msg.Reduce l m) o) in
      let weak : m ≤ IR = new-mode l m refl in
      record {
        ledger = ledger-reduce n old new messages me others k.ledger p a other (msg.Reduce l m) o l m refl here place;
        links = links-reduce n old new messages me others k.links p a (msg.Reduce l m) o l m refl here;
        sender =
            sender-taken old new messages k.sender (alike old new me others (λ r. r.toward) (same (λ r. r.toward) refl refl))
            (counters-kept n old new messages me others k.links (omega (arith, same (λ r. r.counter) refl refl))) p o.low;
        small = small-reduce n old new messages me low others k.small limit long a from_low p l m o.low o.there here;
        pairs = pairs-reduce n old new messages me low others k.pairs limit long a from_low p l m new-mode here;
        fits = fits-reduce n old new messages me low others k.fits (k.pairs.room me low) limit long a from_low p l m weak here;
        idle = idle-reduce n old new messages me low others k.idle (k.pairs.room me low) limit long a from_low p l m weak here;
        tree = reduce-tree n old new messages me low others k.tree p a l m o.there here;
        few = messages-reduce n old new messages me low others queue hand p a l m o.low o.there here k.few;
        counters = counters-reduce n old new messages me low others queue hand p a l m o.low o.there here k.counters;
      }
    where
      -- what a REDUCE leaves alone
      same : {A : Type 0} (f : Room → A) → f (set_entry (old me) a (entry_of m l)) ≡ f (old me) → f (old me) ≡ f (old me) → f (new me) ≡ f (old me)
      same f x y = ap f here ∙ reduced-either (old me) a l m (λ (r : Room). f r ≡ f (old me)) (λ e. x) (λ e. y)
