-- What MESSAGES and COUNTERS bound, and the tables that they begin with: a fresh one, and one on which an ASK is not refused.
use Rattle.std.specs.Prelude.{◌≡◌, false, List, [], ℕ, ◌+◌, ◌*◌, ◌≤◌, ◌<◌, length}
use Rattle.std.proofs.Math.Path.{ap}
use native.Mathlib.Omega.{arith}
use borrow.Author.Tests.{lt-ltb, lt-leb}
use Rattle.base.specs.Sums.{sum_bound}
use Rattle.base.specs.Lists.{total}
use Rattle.room.specs.declared.Room.{Room}
use Rattle.room.specs.Limits.{room_limit, last_link}
use Rattle.room.specs.Rules.{next_link, is_worn}
use Rattle.table.specs.declared.Wire.{Wire}
use Rattle.table.specs.declared.Queued.{Queued}
use Rattle.table.specs.Limits.{wire_limit}
use Rattle.table.specs.Formed.{names}
use Rattle.rules.specs.Limits.{busy_limit, worn_limit}
use Rattle.facts.specs.Moments.{Formed}
use Rattle.facts.specs.Names.{names-room}
use Rattle.bounds.specs.Bounds.{level, Messages, most_messages, Counters}
use Rattle.bounds.proofs.Weights.{level-le, level-none, length-weights, weights-naming, requests-naming}

-- An ASK that is not refused, by a room that nothing names, may have a name in hand.
module _ (n : ℕ) (rooms : ℕ → Room) (queue : List Queued) (messages : List Wire) (f : Formed n rooms queue messages)
    (me : ℕ) (low : me < n) (unnamed : names queue messages me ≡ 0) where
  pub messages-ask : length messages < busy_limit → Messages n rooms queue messages 1
  messages-ask idle = omega (
    arith,
    weights-naming messages,
    names-room n rooms queue messages f me low unnamed,
    sum_bound n 2 (λ c. level (rooms c).credit) (λ c h. level-le (rooms c).credit),
  )

  pub counters-ask : ((c : ℕ) → c < n → (rooms c).counter < worn_limit) → Counters n rooms queue messages 1
  counters-ask unworn c h = omega (
    arith,
    unworn c h,
    requests-naming messages,
    names-room n rooms queue messages f me low unnamed,
  )

-- every message weighs something
pub messages-few : (n : ℕ) (rooms : ℕ → Room) (queue : List Queued) (messages : List Wire) (hand : ℕ) → Messages n rooms queue messages hand
    → length messages ≤ busy_limit + 5 * n
messages-few n rooms queue messages hand b = omega (arith, b, length-weights messages)

module _ (n : ℕ) (small : n ≤ room_limit) (rooms : ℕ → Room) (queue : List Queued) (messages : List Wire) (hand : ℕ) where
  pub messages-most : Messages n rooms queue messages hand → length messages ≤ most_messages
  messages-most b = omega (arith, messages-few n rooms queue messages hand b)

  -- the wires have places for all messages
  pub messages-fit : Messages n rooms queue messages hand → length messages ≤ wire_limit
  messages-fit b = omega (arith, messages-most b)

  -- for a name in hand there is a link number
  module _ (me : ℕ) (low : me < n) (b : Counters n rooms queue messages (hand + 1)) where
    pub never-worn : is_worn (rooms me).counter ≡ false
    unfolding is_worn
    never-worn = lt-leb last_link (rooms me).counter (omega (arith, b me low))

    pub next-link : next_link (rooms me).counter ≡ (rooms me).counter + 1
    unfolding next_link
    next-link = simp (lt-ltb (rooms me).counter last_link (omega (arith, b me low)))

-- Nothing is owed, numbered, queued or sent.
module _ (n : ℕ) (rooms : ℕ → Room) where
  pub messages-fresh : ((c : ℕ) → c < n → (rooms c).credit ≡ 0) → Messages n rooms [] [] 0
  unfolding total
  messages-fresh free = omega (
    arith,
    sum_bound n 0 (λ c. level (rooms c).credit) (λ c h. omega (arith, ap level (free c h), level-none)),
  )

  pub counters-fresh : ((c : ℕ) → c < n → (rooms c).counter ≡ 0) → Counters n rooms [] [] 0
  unfolding total
  counters-fresh unused c h = omega (arith, unused c h)
