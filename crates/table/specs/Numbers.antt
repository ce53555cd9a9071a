-- "Numbers given back": document 01's names for them.
use Rattle.std.specs.Prelude.{ℕ, Result, Ok, Err}
use Rattle.table.specs.declared.refusal.Refusal.{Refusal}
use Rattle.table.specs.declared.refusal.Refusal.TheVariants as refusal

abbrev pub DONE : ℕ
DONE = 0

abbrev pub TABLE : ℕ
TABLE = 1

abbrev pub EVENT : ℕ
EVENT = 2

abbrev pub ROOM : ℕ
ROOM = 3

abbrev pub MODE : ℕ
MODE = 4

abbrev pub WAITING : ℕ
WAITING = 5

abbrev pub HELD : ℕ
HELD = 6

abbrev pub NOT-HELD : ℕ
NOT-HELD = 7

abbrev pub EMPTY : ℕ
EMPTY = 8

abbrev pub BUSY : ℕ
BUSY = 9

abbrev pub WORN : ℕ
WORN = 10

abbrev pub FULL : ℕ
FULL = 11

-- the number of each refusal
abbrev pub number_of : Refusal → ℕ
number_of refusal.Table = TABLE
number_of refusal.Event = EVENT
number_of refusal.Room = ROOM
number_of refusal.Mode = MODE
number_of refusal.Waiting = WAITING
number_of refusal.Held = HELD
number_of refusal.NotHeld = NOT-HELD
number_of refusal.Empty = EMPTY
number_of refusal.Busy = BUSY
number_of refusal.Worn = WORN
number_of refusal.Full = FULL

-- the number that a result is given back with
abbrev pub number_in : {A : Type 0} → Result A Refusal → ℕ
number_in (Ok made) = DONE
number_in (Err why) = number_of why
