-- What the queue and the messages are tested against: the rooms, told by their standings.
use Rattle.std.specs.Prelude.{ℕ, None, List, []}
use Rattle.room.specs.declared.Room.{Room}
use Rattle.records.specs.declared.Standing.{Standing}
use Rattle.records.specs.Seen.{standing_at}

-- a room of which no more is told than its standing, and the rooms so told
abbrev pub room_of : Standing → Room
room_of s =
    record { held = 0; wanted = s.due; token = s.token; toward = 0; lender = None; credit = 0; link = 0; counter = 0; entries = [] }

abbrev pub rooms_of : List Standing → ℕ → Room
rooms_of standings c = room_of (standing_at standings c)
