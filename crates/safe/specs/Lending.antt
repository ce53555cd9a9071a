-- Every clause is kept where a room lends.
use Rattle.std.specs.Prelude.{◌≡◌, ◌≢◌, true, false, List, [], ◌∷◌, ◌++◌, ℕ, ◌+◌, ◌≤◌, ◌<◌, length}
use Rattle.std.proofs.Math.Path.{refl, ap}
use Rattle.std.proofs.Common.{arith}
use Rattle.base.specs.Lists.{Mem}
use Rattle.modes.specs.Modes.{can_lend}
use Rattle.modes.specs.Under.{under}
use Rattle.modes.proofs.Laws.{lends_some}
use Rattle.room.specs.declared.Room.{Room}
use Rattle.room.specs.Limits.{room_limit}
use Rattle.room.specs.Owned.{owned}
use Rattle.room.specs.Rules.{next_link, lent_to}
use Rattle.table.specs.declared.Wire.{Wire}
use Rattle.table.specs.declared.Queued.{Queued}
use Rattle.table.specs.declared.Message.TheVariants as msg
use Rattle.table.specs.Oldest.{between}
use Rattle.table.specs.Formed.{is_token}
use Rattle.facts.specs.Wires.{wire}
use Rattle.ledger.proofs.Frames.{alike, sender-is, receiver-is}
use Rattle.ledger.proofs.Lends.{ledger-lend}
use Rattle.ledger.proofs.Numbers.{counters-kept, links-lend}
use Rattle.ledger.proofs.Reach.{reach-still}
use Rattle.ledger.proofs.Senders.{sender-sent}
use Rattle.owning.specs.Messages.{kind}
use Rattle.owning.proofs.Small.{small-lend}
use Rattle.owning.proofs.PairsKept.{pairs-lend}
use Rattle.owning.proofs.Fits.{fits-lend}
use Rattle.owning.proofs.Idle.{idle-lend}
use Rattle.tree.specs.Tree.{Tree}
use Rattle.bounds.proofs.Messages.{messages-lend}
use Rattle.bounds.proofs.Counters.{counters-lend}
use Rattle.bounds.proofs.Limits.{next-link}
use Rattle.safe.specs.Invariant.{Clauses}

module _ (n : ℕ) (old new : ℕ → Room) (queue : List Queued) (messages : List Wire) (me : ℕ) (low : me < n) (limit : n ≤ room_limit)
    (long : length (old me).entries ≡ room_limit) (others : (c : ℕ) → c ≢ me → new c ≡ old c) (hand : ℕ) (k : Clauses n old queue messages (hand + 1)) (y m : ℕ) (near : y < n) (other : y ≢ me)
    (here : new me ≡ lent_to (old me) y m) (can : can_lend (owned (old me)) m ≡ true) (fit : under (owned (old y)) m ≡ true)
    (none : (w : Wire) → Mem w messages → between y me w ≡ true → is_token w.message ≡ false) where
  abbrev link : ℕ
  link = next_link (old me).counter

  abbrev grant : Wire
  grant = wire me y (msg.Grant m link)

  counted : link ≡ (old me).counter + 1
  counted = next-link n limit old queue messages hand me low k.counters

  -- the new number is above every REDUCE of y under way
  above : (w : Wire) → Mem w messages → between y me w ≡ true → (l j : ℕ) → w.message ≡ msg.Reduce l j → l < link
  above w i b l j e = omega (
    arith,
    counted,
    reach-still y me messages none (old me).counter,
    rw (receiver-is y me w b, sender-is y me w b) at (k.links.reduce w i l j e),
  )

  pub clauses-lend : Tree n new (messages ++ (grant ∷ [])) → Clauses n new queue (messages ++ (grant ∷ [])) hand
  unfolding lent_to is_token
  clauses-lend tree =
      record {
        ledger =
            ledger-lend n old new messages me others k.ledger y m here other (lends_some (owned (old me)) m can) (omega (arith, long)) above none;
        links = links-lend n old new messages me others k.links y m here (omega (arith, counted)) near low other none;
        sender =
            sender-sent old new messages k.sender (alike old new me others (λ r. r.toward) (rw here refl))
            (counters-kept n old new messages me others k.links (omega (arith, counted, ap (λ (r : Room). r.counter) here)))
            grant refl (λ w i j rest l e o h idle q. absurd (omega (arith, ap kind q)));
        small = small-lend n old new messages me low others k.small limit long y near m link can here;
        pairs = pairs-lend n old new messages me low others k.pairs limit long y near m link can here;
        fits = fits-lend n old new messages me low others k.fits (k.pairs.room me low) limit long y near m link other can fit here;
        idle = idle-lend n old new messages me low others k.idle (k.pairs.room me low) limit long y near m link can here;
        tree = tree;
        few = messages-lend n old new messages me low others queue hand y m here k.few;
        counters = counters-lend n old new messages me low others queue hand y m here k.counters;
      }
