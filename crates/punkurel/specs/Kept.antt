-- What is kept of a line that comes in pieces.
use Rattle.std.specs.Prelude.{ℕ}

-- its first bytes: one more than the 64 that a line can have, so that a longer one stays longer
abbrev pub kept_limit : ℕ
kept_limit = 65
