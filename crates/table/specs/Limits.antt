-- The table's limits, each under its one name.
use Rattle.std.specs.Prelude.{ℕ}

-- "The table has one queue .. at most 16"
abbrev pub queue_limit : ℕ
queue_limit = 16

-- "and at most 256 messages"
abbrev pub wire_limit : ℕ
wire_limit = 256
