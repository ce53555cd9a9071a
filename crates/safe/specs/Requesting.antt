-- Every clause is kept where a REQUEST is sent or taken off its wire, and where a room joins the queue or is taken off it.
use Rattle.std.specs.Prelude.{◌≡◌, Bool, true, List, [], ◌∷◌, ◌++◌, ℕ, ◌+◌}
use Rattle.std.proofs.Math.Path.{refl}
use Rattle.std.proofs.Common.{arith}
use Rattle.base.specs.Lists.{Mem, remove}
use Rattle.room.specs.declared.Room.{Room}
use Rattle.room.specs.Owned.{owned}
use Rattle.table.specs.declared.Wire.{Wire}
use Rattle.table.specs.declared.Queued.{Queued}
use Rattle.table.specs.declared.Message.TheVariants as msg
use Rattle.table.specs.Oldest.{between}
use Rattle.table.specs.Formed.{is_token}
use Rattle.facts.specs.Wires.{wire}
use Rattle.ledger.proofs.Calm.{ledger-ask, ledger-heard}
use Rattle.ledger.proofs.Takes.{Oldest}
use Rattle.ledger.proofs.Received.{links-ask, links-taken}
use Rattle.ledger.proofs.Senders.{sender-sent, sender-taken}
use Rattle.owning.proofs.Small.{small-request, small-taken}
use Rattle.owning.proofs.Pairs.{pairs-request, pairs-taken}
use Rattle.owning.proofs.Fits.{fits-request, fits-taken}
use Rattle.owning.proofs.Idle.{idle-request, idle-taken}
use Rattle.tree.proofs.Kept.{request-sent-tree, request-taken-tree}
use Rattle.bounds.specs.Bounds.{Messages, Counters}
use Rattle.bounds.proofs.Messages.{messages-request-sent, messages-request-taken, messages-head-taken, messages-joined, messages-dropped}
use Rattle.bounds.proofs.Counters.{counters-request-sent, counters-request-taken, counters-head-taken, counters-joined, counters-dropped}
use Rattle.safe.specs.Invariant.{Clauses}

-- the queue and the names in hand are in two clauses alone
pub recounted : (n : ℕ) (rooms : ℕ → Room) (messages : List Wire) (queue after : List Queued) (hand left : ℕ) → Clauses n rooms queue messages hand
    → Messages n rooms after messages left → Counters n rooms after messages left → Clauses n rooms after messages left
recounted n rooms messages queue after hand left k few counters =
    record {
      ledger = k.ledger;
      links = k.links;
      sender = k.sender;
      small = k.small;
      pairs = k.pairs;
      fits = k.fits;
      idle = k.idle;
      tree = k.tree;
      few = few;
      counters = counters;
    }

module _ (n : ℕ) (rooms : ℕ → Room) (queue : List Queued) (messages : List Wire) (hand : ℕ) where
  -- a REQUEST is sent; one of a TOKEN's sender goes behind that TOKEN
  pub clauses-asked : (x y o m : ℕ) (idle : Bool) → Clauses n rooms queue messages (hand + 1) → (idle ≡ true → owned (rooms o) ≡ 0)
      → ((w : Wire) → Mem w messages → (j rest l : ℕ) → w.message ≡ msg.Token j rest l → o ≡ w.«from»
      → between w.«from» w.to (wire x y (msg.Request o m idle)) ≡ true)
      → Clauses n rooms queue (messages ++ (wire x y (msg.Request o m idle) ∷ [])) hand
  unfolding is_token
  clauses-asked x y o m idle k owns along =
      record {
        ledger = ledger-ask n rooms messages k.ledger o m idle x y;
        links = links-ask n rooms messages k.links x y o m idle;
        sender =
            sender-sent rooms rooms messages k.sender (λ c. refl) (λ c. omega arith) (wire x y (msg.Request o m idle)) refl
            (λ w i j rest l e p h b q f. let origin : o ≡ p = cc in along w i j rest l e (rw origin f));
        small = small-request n rooms messages k.small x y o m idle;
        pairs = pairs-request n rooms messages k.pairs x y o m idle;
        fits = fits-request rooms messages k.fits x y o m idle;
        idle = idle-request rooms messages k.idle x y o m idle owns;
        tree = request-sent-tree n rooms messages k.tree x y o m idle;
        few = messages-request-sent n rooms queue messages hand x y o m idle k.few;
        counters = counters-request-sent n rooms queue messages hand x y o m idle k.counters;
      }

  -- a REQUEST is taken off its wire
  pub clauses-heard : (j x y o m : ℕ) (idle : Bool) → Clauses n rooms queue messages hand → Oldest messages j x y (msg.Request o m idle)
      → Clauses n rooms queue (remove j messages) (hand + 1)
  unfolding is_token
  clauses-heard j x y o m idle k at =
      record {
        ledger = ledger-heard n rooms messages k.ledger o m idle j x y at;
        links = links-taken n rooms rooms messages y (λ c d. refl) k.links j x (msg.Request o m idle) at refl refl refl refl;
        sender = sender-taken rooms rooms messages k.sender (λ c. refl) (λ c. omega arith) j at.low;
        small = small-taken n rooms messages k.small j;
        pairs = pairs-taken n rooms messages k.pairs j;
        fits = fits-taken rooms messages k.fits j;
        idle = idle-taken rooms messages k.idle j;
        tree = request-taken-tree n rooms messages k.tree x y o m idle j at.there;
        few = messages-request-taken n rooms queue messages hand j x y o m idle at.low at.there k.few;
        counters = counters-request-taken n rooms queue messages hand j x y o m idle at.low at.there k.counters;
      }

  pub clauses-joined : (q : Queued) → Clauses n rooms queue messages (hand + 1) → Clauses n rooms (queue ++ (q ∷ [])) messages hand
  clauses-joined q k =
      recounted n rooms messages queue (queue ++ (q ∷ [])) (hand + 1) hand k (messages-joined n rooms queue messages hand q k.few)
      (counters-joined n rooms queue messages hand q k.counters)

  pub clauses-headed : (q : Queued) → Clauses n rooms (q ∷ queue) messages hand → Clauses n rooms queue messages (hand + 1)
  clauses-headed q k =
      recounted n rooms messages (q ∷ queue) queue hand (hand + 1) k (messages-head-taken n rooms queue messages hand q k.few)
      (counters-head-taken n rooms queue messages hand q k.counters)

  -- a name is in hand no more
  pub clauses-dropped : Clauses n rooms queue messages (hand + 1) → Clauses n rooms queue messages hand
  clauses-dropped k =
      recounted n rooms messages queue queue (hand + 1) hand k (messages-dropped n rooms queue messages hand k.few)
      (counters-dropped n rooms queue messages hand k.counters)
