-- The test of a REQUEST at a room without the token, as the code makes it.
use Rattle.std.specs.Prelude.{ℕ, Bool, not, ◌&&◌, eqb}
use Rattle.modes.specs.Modes.{can_lend}
use Rattle.room.specs.Owned.{owned}
use Rattle.rules.specs.Work.{Work}

-- "if the origin owned nothing, isn't b, and owned of b can lend the mode"
abbrev pub lends_on : Work → ℕ → ℕ → Bool → Bool
lends_on w o m idle = idle && not (eqb o w.me) && can_lend (owned w.room) m
