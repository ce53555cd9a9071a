-- The limits of a step, each under its one name.
use Rattle.std.specs.Prelude.{ℕ}

-- "9 BUSY: ASK with 96 or more messages on the wires"
abbrev pub busy_limit : ℕ
busy_limit = 96

-- "10 WORN: ASK with some counter at 4,294,967,000 or more"
abbrev pub worn_limit : ℕ
worn_limit = 4294967000
