-- Counting the names: no room is named twice, so queue, REQUESTs, GRANTs and TOKENs together are at most as many as the rooms.
use Rattle.std.specs.Prelude.{◌≡◌, Bool, true, false, List, ℕ, ◌+◌, ◌≤◌, ◌<◌, ltb, length}
use Rattle.std.proofs.Common.{◌∙◌}
use native.Mathlib.Omega.{arith}
use Rattle.std.proofs.Math.Dec.{eqb}
use Rattle.base.specs.Sums.{one, one-le, sum, sum-add, sum_bound, sum-hit, sum-short}
use Rattle.base.specs.Lists.{count, total-cong, total-one, sum-total}
use Rattle.room.specs.declared.Room.{Room}
use Rattle.table.specs.declared.Wire.{Wire}
use Rattle.table.specs.declared.Queued.{Queued}
use Rattle.table.specs.declared.Message.{Message}
use Rattle.table.specs.declared.Message.TheVariants as msg
use Rattle.table.specs.Formed.{due, is_named_in, names}
use Rattle.facts.specs.Moments.{Formed}
use Rattle.facts.specs.Messages.{Proper, proper}

-- a REQUEST, GRANT or TOKEN names a room
unfoldable pub is_naming : Message → Bool
is_naming msg.Nothing = false
is_naming (msg.Request o m idle) = true
is_naming (msg.Grant m l) = true
is_naming (msg.Token m rest l) = true
is_naming (msg.Reduce l m) = false

unfoldable pub is_request : Message → Bool
is_request msg.Nothing = false
is_request (msg.Request o m idle) = true
is_request (msg.Grant m l) = false
is_request (msg.Token m rest l) = false
is_request (msg.Reduce l m) = false

-- how many rooms of n a message names: one or none
names-one : (n : ℕ) (rooms : ℕ → Room) (to : ℕ) (m : Message) → to < n → Proper n rooms to m
    → sum n (λ c. one (is_named_in c to m)) ≡ one (is_naming m)
unfolding is_named_in is_naming
names-one n rooms to msg.Nothing h p = absurd p
names-one n rooms to (msg.Request o m idle) h p = sum-hit n o p.low
names-one n rooms to (msg.Grant m l) h p = sum-hit n to h
names-one n rooms to (msg.Token m rest l) h p = sum-hit n to h
names-one n rooms to (msg.Reduce l m) h p = omega (arith, sum_bound n 0 (λ c. 0) (λ c k. omega arith))

module _ (n : ℕ) (rooms : ℕ → Room) (queue : List Queued) (messages : List Wire) (f : Formed n rooms queue messages) where
  -- the places of the queue, counted room by room
  queue-sum : sum n (λ c. count (λ q. eqb q.room c) queue) ≡ length queue
  queue-sum =
      sum-total n (λ c q. one (eqb q.room c)) queue
      ∙ total-cong (λ q. sum n (λ c. one (eqb q.room c))) (λ q. 1) queue (λ q m. sum-hit n q.room (f.queued q m).low)
      ∙ total-one queue

  -- the messages that name a room, counted room by room
  message-sum : sum n (λ c. count (λ w. is_named_in c w.to w.message) messages) ≡ count (λ w. is_naming w.message) messages
  message-sum =
      sum-total n (λ c w. one (is_named_in c w.to w.message)) messages
      ∙ total-cong (λ w. sum n (λ c. one (is_named_in c w.to w.message))) (λ w. one (is_naming w.message)) messages
      (λ w m. names-one n rooms w.to w.message (f.message w m).to_low (proper (f.message w m)))

  -- no room is named twice
  pub named-once : (c : ℕ) → c < n → names queue messages c ≤ 1
  named-once c h = omega (arith, f.named c h, one-le (ltb 0 (due (rooms c))))

  queued-once : (c : ℕ) → c < n → count (λ q. eqb q.room c) queue ≤ 1
  unfolding names
  queued-once c h = omega (arith, named-once c h)

  -- all names, counted room by room
  pub names-sum : sum n (names queue messages) ≡ length queue + count (λ w. is_naming w.message) messages
  unfolding names
  names-sum = omega (
    arith,
    queue-sum,
    message-sum,
    sum-add n (λ c. count (λ q. eqb q.room c) queue) (λ c. count (λ w. is_named_in c w.to w.message) messages),
  )

  -- "REQUESTs, GRANTs and TOKENs" and the queue: one for each room at most
  pub names-bound : length queue + count (λ w. is_naming w.message) messages ≤ n
  names-bound = omega (arith, names-sum, sum_bound n 1 (names queue messages) named-once)

  pub queue-bound : length queue ≤ n
  queue-bound = omega (arith, names-bound)

  -- a room that is not in the queue leaves a place for it
  pub queue-room : (c : ℕ) → c < n → count (λ q. eqb q.room c) queue ≡ 0 → length queue < n
  queue-room c h z = omega (arith, queue-sum, sum-short n (λ c. count (λ q. eqb q.room c) queue) c h queued-once z)

  -- and so does a room that is named by nothing, with room for one more name
  pub names-room : (c : ℕ) → c < n → names queue messages c ≡ 0 → length queue + count (λ w. is_naming w.message) messages < n
  names-room c h z = omega (arith, names-sum, sum-short n (names queue messages) c h named-once z)
