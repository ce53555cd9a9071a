-- MESSAGES and COUNTERS: what a table can still send, and how far its counters can still go.
use Rattle.std.specs.Prelude.{ℕ, ◌+◌, ◌*◌, ◌≤◌, ◌<◌, List, eqb, length, if◌then◌else◌}
use Rattle.base.specs.Sums.{sum}
use Rattle.base.specs.Lists.{total, count}
use Rattle.modes.specs.Codes.{IR}
use Rattle.room.specs.declared.Room.{Room}
use Rattle.room.specs.Limits.{room_limit}
use Rattle.table.specs.declared.Wire.{Wire}
use Rattle.table.specs.declared.Queued.{Queued}
use Rattle.table.specs.declared.Message.{Message}
use Rattle.table.specs.declared.Message.TheVariants as msg
use Rattle.rules.specs.Limits.{busy_limit, worn_limit}
use Rattle.facts.specs.Names.{is_request}

-- the REDUCEs that a loan of this mode can still cost its borrower: none 0, IR 1, others 2
unfoldable pub level : ℕ → ℕ
level m = if eqb m 0 then 0 else (if eqb m IR then 1 else 2)

-- the messages that a message can become, itself among them
unfoldable pub weight : Message → ℕ
weight msg.Nothing = 1
weight (msg.Request o m idle) = 3
weight (msg.Grant m l) = 3
weight (msg.Token m rest l) = 1
weight (msg.Reduce l m) = 1

-- MESSAGES, with so many names in hand, taken off the queue or off a wire and not yet put down
abbrev pub Messages : ℕ → (ℕ → Room) → List Queued → List Wire → ℕ → Type 0
Messages n rooms queue messages hand =
    total (λ w. weight w.message) messages + 3 * (length queue + hand) + sum n (λ c. level (rooms c).credit) ≤ busy_limit + 5 * n

-- so many at most: the 96 at which an ASK is refused, and five for each of 16 rooms
abbrev pub most_messages : ℕ
most_messages = busy_limit + 5 * room_limit

-- COUNTERS
abbrev pub Counters : ℕ → (ℕ → Room) → List Queued → List Wire → ℕ → Type 0
Counters n rooms queue messages hand =
    (c : ℕ) → c < n → (rooms c).counter + (length queue + count (λ w. is_request w.message) messages + hand) < worn_limit + n
