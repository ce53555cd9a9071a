-- Demand 3, first half, of every table that events lead to from a fresh one; and what later work needs of such a table.
use Rattle.std.specs.Prelude.{◌≡◌, refl, ◌≢◌, true, false, ℕ, ◌≤◌, ◌<◌, leb}
use Rattle.std.proofs.Common.{subst, arith}
use borrow.Author.Tests.{lt-leb, ne_eqb}
use Rattle.room.specs.Limits.{room_limit}
use Rattle.std.specs.Prelude.{Some}
use Rattle.table.specs.Oldest.{found_at}
use Rattle.table.specs.declared.Table.{Table}
use Rattle.table.specs.declared.Message.{Message}
use Rattle.table.specs.Numbers.{DONE}
use Rattle.table.specs.Tables.{no_wire, room_at, messages_of, queue_of, fresh_table}
use Rattle.table.specs.Oldest.{oldest_of}
use Rattle.table.specs.Formed.{well_formed}
use Rattle.rules.specs.declared.Event.{Event}
use Rattle.rules.specs.Events.{HANDBACK, DELIVER}
use Rattle.rules.specs.Refusals.{first, refusal_as, refusal, is_found}
use Rattle.rules.specs.Step.{step_of}
use Rattle.base.specs.Lists.{mem-at}
use Rattle.facts.specs.Search.{oldest-low, oldest-there}
use Rattle.kept.specs.Fresh.{fresh-has}
use Rattle.tree.proofs.Agreement.{agreement}
use Rattle.bounds.specs.Bounds.{most_messages}
use Rattle.bounds.proofs.Limits.{messages-most}
use Rattle.safe.specs.Fresh.{fresh-safe}
use Rattle.safe.specs.Reached.{Reached, Demand3}
use Rattle.safe.specs.Step.{Safe, step-goes, runs-safe, messages-count}

-- the fresh table of n rooms has the invariant,
pub fresh_start : (n : ℕ) → 1 ≤ n → n ≤ room_limit → Safe n (fresh_table n)
unfolding fresh_table
fresh_start n some most = record { rooms = refl; lawful = fresh-has n some most; invariant = fresh-safe n some most }

-- and so has every reached table
pub reached-safe : (n : ℕ) (t : Table) → Reached n t → Safe n t
reached-safe n t r = subst (Safe n) r.leads (runs-safe n r.events (fresh_table n) (fresh_start n r.some r.most))

module _ (n : ℕ) (t : Table) (r : Reached n t) where
  safe : Safe n t
  safe = reached-safe n t r

  limit : t.n ≤ room_limit
  limit = omega (arith, safe.rooms, r.most)

  -- "there is always exactly one token, with one room or on one wire, and modes held by two rooms agree"
  pub demand3 : Demand3 n t
  demand3 =
      record {
        rooms = safe.rooms;
        one_token = rw (← safe.rooms) (omega (arith, safe.invariant.sound.token));
        agree =
            λ c d p q other.
            agreement t.n (room_at t) (messages_of t) limit safe.invariant.sound.room safe.invariant.clauses.ledger safe.invariant.exact
            safe.invariant.clauses.small safe.invariant.clauses.pairs safe.invariant.clauses.fits safe.invariant.clauses.tree
            (omega (arith, safe.invariant.sound.token)) (λ w i. (safe.invariant.sound.right w i).facts.to_low)
            c d (omega (arith, safe.rooms)) (omega (arith, safe.rooms)) (λ e. omega arith);
      }

  -- a reached table is well formed, so a step on it needs no test
  pub reached-formed : well_formed t ≡ true
  reached-formed = safe.lawful.0

  -- its messages are few
  pub reached-few : t.count ≤ most_messages
  reached-few = omega (arith, messages-count n t safe, messages-most t.n limit (room_at t) (queue_of t) (messages_of t) 0 safe.invariant.clauses.few)

  -- a delivery on a wire with a message is accepted
  pub delivery-accepted : (e : Event) → e.kind ≡ DELIVER → (k : ℕ) (m : Message) → oldest_of t e.room e.other ≡ Some (found_at k m)
      → (step_of t e).«number» ≡ DONE
  unfolding refusal refusal_as first is_found
  delivery-accepted e kind k m h = (step-goes n t safe e (rw (reached-formed, kind, h, inside.0, inside.1) refl)).0
    where
      inside : (leb t.n e.room ≡ false) × (leb t.n e.other ≡ false)
      inside =
          let i = rw (oldest-there t e.room e.other k m h) at
          (safe.invariant.sound.right _ (mem-at (messages_of t) k no_wire (oldest-low t e.room e.other k m h))) in
          (lt-leb _ _ i.facts.from_low, lt-leb _ _ i.facts.to_low)

  -- a hand-back by a room that holds and does not wait is accepted
  pub hand-back-accepted : (e : Event) → e.kind ≡ HANDBACK → e.room < n → (room_at t e.room).held ≢ 0 → (room_at t e.room).wanted ≡ 0
      → (step_of t e).«number» ≡ DONE
  unfolding refusal refusal_as first
  hand-back-accepted e kind low holds idle =
      (step-goes n t safe e
      (rw (reached-formed, kind, lt-leb t.n e.room (omega (arith, safe.rooms)), idle, ne_eqb (room_at t e.room).held 0 holds) refl)).0
