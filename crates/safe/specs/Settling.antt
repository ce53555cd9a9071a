-- Every clause is kept where a room settles, and where it holds or wants another mode.
use Rattle.std.specs.Prelude.{◌≡◌, ◌≢◌, true, List, [], ◌∷◌, ◌++◌, ℕ, ◌≤◌, ◌<◌}
use Rattle.std.proofs.Math.Path.{refl, ap}
use Rattle.std.proofs.Common.{◌∙◌, arith}
use Rattle.base.specs.Lists.{Mem}
use Rattle.std.specs.Prelude.{None}
use Rattle.modes.specs.Codes.{IR}
use Rattle.modes.specs.Modes.{is_stronger}
use Rattle.modes.proofs.Laws.{stronger-true}
use Rattle.room.specs.declared.Room.{Room}
use Rattle.room.specs.Limits.{room_limit}
use Rattle.room.specs.Record.{with_modes, with_debt, lender_of}
use Rattle.room.specs.Owned.{owned}
use Rattle.room.specs.Rules.{credited}
use Rattle.room.proofs.Lenders.{lends-other}
use Rattle.table.specs.declared.Wire.{Wire}
use Rattle.table.specs.declared.Queued.{Queued}
use Rattle.table.specs.declared.Message.TheVariants as msg
use Rattle.table.specs.Formed.{is_token}
use Rattle.facts.specs.Rooms.{RoomFacts}
use Rattle.facts.specs.Wires.{wire}
use Rattle.facts.specs.Cases.{credited-either}
use Rattle.ledger.proofs.Frames.{alike}
use Rattle.ledger.proofs.Lends.{ledger-pay}
use Rattle.ledger.proofs.Calm.{ledger-modes}
use Rattle.ledger.proofs.Numbers.{counters-kept, links-modes}
use Rattle.ledger.proofs.Received.{links-pay}
use Rattle.ledger.proofs.Senders.{sender-same, sender-sent}
use Rattle.owning.specs.Clauses.{Pairs, Fits, Idle}
use Rattle.owning.specs.Messages.{kind}
use Rattle.owning.proofs.Small.{small-modes, small-settle}
use Rattle.owning.proofs.PairsKept.{pairs-settle}
use Rattle.owning.proofs.Fits.{fits-settle}
use Rattle.owning.proofs.Idle.{idle-settle}
use Rattle.tree.proofs.Kept.{modes-tree, settle-tree}
use Rattle.bounds.proofs.Messages.{messages-modes, messages-settle}
use Rattle.bounds.proofs.Counters.{counters-modes, counters-settle}
use Rattle.safe.specs.Invariant.{Clauses}

module _ (n : ℕ) (old new : ℕ → Room) (queue : List Queued) (messages : List Wire) (me : ℕ) (low : me < n) (limit : n ≤ room_limit)
    (others : (c : ℕ) → c ≢ me → new c ≡ old c) (hand : ℕ) (k : Clauses n old queue messages hand) where
  -- another held and another wanted mode, where those clauses that are about owned modes are kept
  pub clauses-modes : (h v : ℕ) → new me ≡ with_modes (old me) h v → Pairs n new messages → Fits new messages → Idle new messages
      → Clauses n new queue messages hand
  clauses-modes h v here pairs fits idle =
      record {
        ledger = ledger-modes n old new messages me h v others here k.ledger;
        links = links-modes n old new messages me others k.links h v here;
        sender =
            sender-same old new messages k.sender (alike old new me others (λ r. r.toward) (rw here refl))
            (counters-kept n old new messages me others k.links (rw here (omega arith)));
        small = small-modes n old new messages me low others k.small h v here;
        pairs = pairs;
        fits = fits;
        idle = idle;
        tree = modes-tree n old new messages me low others k.tree h v here;
        few = messages-modes n old new messages me low others queue hand h v here k.few;
        counters = counters-modes n old new messages me low others queue hand h v here k.counters;
      }

  -- "Settle": what is owed falls to what is owned, and the lender is told
  module _ (facts : RoomFacts n me (old me)) (senders : (w : Wire) → Mem w messages → w.«from» < n)
      (here : new me ≡ credited (old me) (owned (old me))) (falls : is_stronger (old me).credit (owned (old me)) ≡ true) (weak : owned (old me) ≤ IR) where
    abbrev own : ℕ
    own = owned (old me)

    abbrev reduce : Wire
    reduce = wire me (lender_of (old me)) (msg.Reduce (old me).link own)

    less : own < (old me).credit
    less = stronger-true (old me).credit own falls

    lent : (old me).lender ≢ None
    lent e = omega (arith, less, facts.nobody-none e)

    lender-low : lender_of (old me) < n
    lender-low = facts.lender-low lent

    -- what settling leaves alone
    same : {A : Type 0} (f : Room → A) → f (with_debt (old me) None own 0) ≡ f (old me) → f (with_debt (old me) (old me).lender own (old me).link) ≡ f (old me)
        → f (new me) ≡ f (old me)
    same f p q = ap f here ∙ credited-either (old me) own (λ (r : Room). f r ≡ f (old me)) (λ e. p) (λ e. q)

    pub clauses-settle : Clauses n new queue (messages ++ (reduce ∷ [])) hand
    unfolding is_token
    clauses-settle =
        record {
          ledger = ledger-pay n old new messages me others k.ledger own here less lender-low (lends-other (old me) me lent facts.lender-other) limit k.links;
          links = links-pay n old new messages me others k.links own here lender-low low limit senders;
          sender =
              sender-sent old new messages k.sender (alike old new me others (λ r. r.toward) (same (λ r. r.toward) refl refl))
              (counters-kept n old new messages me others k.links (omega (arith, same (λ r. r.counter) refl refl)))
              reduce refl (λ w i j rest l e o h idle q. absurd (omega (arith, ap kind q)));
          small = small-settle n old new messages me low others k.small (lender_of (old me)) (old me).link here weak;
          pairs = pairs-settle n old new messages me low others k.pairs (lender_of (old me)) (old me).link own here;
          fits = fits-settle n old new messages me low others k.fits (k.pairs.room me low) (lender_of (old me)) (old me).link own here;
          idle = idle-settle n old new messages me low others k.idle (k.pairs.room me low) (lender_of (old me)) (old me).link own here;
          tree = settle-tree n old new messages me low others k.tree own here;
          few = messages-settle n old new messages me low others queue hand weak falls here k.few;
          counters = counters-settle n old new messages me low others queue hand here k.counters;
        }
