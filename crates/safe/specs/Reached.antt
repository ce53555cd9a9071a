-- The tables that events lead to, and what demand 3 says of them, in its first half.
use Rattle.std.specs.Prelude.{◌≡◌, ◌≢◌, true, List, ℕ, ◌≤◌, ◌<◌}
use Rattle.modes.specs.Modes.{agrees}
use Rattle.room.specs.Limits.{room_limit}
use Rattle.table.specs.declared.Table.{Table}
use Rattle.table.specs.Tables.{room_at, messages_of, fresh_table}
use Rattle.table.specs.Formed.{tokens}
use Rattle.rules.specs.declared.Event.{Event}
use Rattle.rules.specs.Step.{runs}

-- "From a fresh table of n rooms (1 to 16) by any events, refused ones among them"
pub record Reached (n : ℕ) (t : Table) : Type 0 where
  pub some : 1 ≤ n
  pub most : n ≤ room_limit
  pub events : List Event
  pub leads : runs (fresh_table n) events ≡ t

-- "there is always exactly one token, with one room or on one wire, and modes held by two rooms agree"
pub record Demand3 (n : ℕ) (t : Table) : Type 0 where
  pub rooms : t.n ≡ n
  pub one_token : tokens n (room_at t) (messages_of t) ≡ 1
  pub agree : (c d : ℕ) → c < n → d < n → c ≢ d → agrees (room_at t c).held (room_at t d).held ≡ true
