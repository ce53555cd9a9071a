-- The limits of a room's record, each under its one name.
use Rattle.std.specs.Prelude.{ℕ}

-- "Rooms are 0 to n-1, n from 1 to 16."
abbrev pub room_limit : ℕ
room_limit = 16

-- The lender's number where there is none: no room has it.
abbrev pub nobody : ℕ
nobody = 255

-- "a link number above 4,294,967,295" is needed by no step that is made.
abbrev pub last_link : ℕ
last_link = 4294967295
