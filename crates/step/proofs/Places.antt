-- A room that asks, and the origin of a REQUEST under way, are not in the queue: there is a place for them.
use mathlib.Core.Path.{◌≡◌, refl, ◌∙◌, ap}
use mathlib.Core.Bool.{Bool, true}
use Prim.Native.Nat.{ℕ, ◌+◌, ◌≤◌, ◌<◌}
use native.Mathlib.Omega.{arith}
use lib.Dec.{eqb, ltb}
use lib.ListN.{length}
use borrow.Author.Tests.{eq-eqb}
use Rattle.base.specs.Sums.{one}
use Rattle.base.specs.Lists.{count, Mem, mem-at, mem-total}
use Rattle.std.specs.Prelude.{Some}
use Rattle.table.specs.Oldest.{found_at}
use Rattle.table.specs.declared.Table.{Table}
use Rattle.table.specs.declared.Message.{Message}
use Rattle.table.specs.declared.Message.TheVariants as msg
use Rattle.table.specs.Limits.{queue_limit}
use Rattle.table.specs.Tables.{no_wire, room_at, queue_of, messages_of}
use Rattle.table.specs.Oldest.{oldest_of}
use Rattle.table.specs.Formed.{is_named_in, names, well_formed}
use Rattle.facts.specs.Shapes.{Shaped}
use Rattle.facts.specs.Whole.{WellFormed, facts-of}
use Rattle.facts.specs.Due.{due-none}
use Rattle.facts.specs.Messages.{proper}
use Rattle.facts.specs.Names.{is_request, queue-bound, queue-room, named-once}
use Rattle.facts.specs.Search.{oldest-low, oldest-there}

module _ (t : Table) (s : Shaped t) (h : well_formed t ≡ true) where
  facts : WellFormed t
  facts = facts-of t s h

  in-queue : ℕ → ℕ
  in-queue c = count (λ q. eqb q.room c) (queue_of t)

  on-wires : ℕ → ℕ
  on-wires c = count (λ w. is_named_in c w.to w.message) (messages_of t)

  both : (c : ℕ) → names (queue_of t) (messages_of t) c ≡ in-queue c + on-wires c
  unfolding names in-queue on-wires
  both c = refl

  pub queue-fits : length (queue_of t) ≤ queue_limit
  queue-fits = omega (arith, queue-bound t.n (room_at t) (queue_of t) (messages_of t) facts.formed, facts.low)

  -- a room that wants nothing is named nowhere
  pub asks-place : (x : ℕ) → x < t.n → (room_at t x).wanted ≡ 0 → length (queue_of t) < queue_limit
  unfolding in-queue
  asks-place x low w =
      let named : names (queue_of t) (messages_of t) x ≡ 0 = facts.formed.named x low ∙ ap (λ (k : ℕ). one (ltb 0 k)) (due-none (room_at t x) w) in
      omega (
        arith,
        queue-room t.n (room_at t) (queue_of t) (messages_of t) facts.formed x low (omega (arith, both x, named)),
        facts.low,
      )

  -- the origin of a REQUEST is named by it, and by nothing else
  pub request-place : (a b k o m : ℕ) (idle : Bool) → oldest_of t a b ≡ Some (found_at k (msg.Request o m idle)) → length (queue_of t) < queue_limit
  unfolding is_named_in in-queue on-wires
  request-place a b k o m idle e =
      let low = oldest-low t a b k (msg.Request o m idle) e in
      let there = oldest-there t a b k (msg.Request o m idle) e in
      let member : Mem (record { «from» = a; to = b; message = msg.Request o m idle }) (messages_of t) = rw there at (mem-at (messages_of t) k no_wire low) in
      let origin : o < t.n = (proper (facts.formed.message _ member)).low in
      let named : 1 ≤ on-wires o = rw (eq-eqb o o refl) at (mem-total (λ w. one (is_named_in o w.to w.message)) member) in
      omega (
        arith,
        queue-room t.n (room_at t) (queue_of t) (messages_of t) facts.formed o origin (omega (arith, both o, named-once t.n (room_at t) (queue_of t) (messages_of t) facts.formed o origin)),
        facts.low,
      )

  -- so whatever message arrives, the queue after it has its places
  pub receive-place : (a b k : ℕ) (x : Message) → oldest_of t a b ≡ Some (found_at k x) → length (queue_of t) + one (is_request x) ≤ queue_limit
  unfolding is_request
  receive-place a b k msg.Nothing e = omega (arith, queue-fits)
  receive-place a b k (msg.Request o m idle) e = omega (arith, request-place a b k o m idle e)
  receive-place a b k (msg.Grant m l) e = omega (arith, queue-fits)
  receive-place a b k (msg.Token m rest l) e = omega (arith, queue-fits)
  receive-place a b k (msg.Reduce l m) e = omega (arith, queue-fits)
