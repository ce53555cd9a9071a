-- A place of the array of rooms.
use Rattle.std.specs.Prelude.{ℕ, Bool, ltb, if◌then◌else◌}
use Rattle.room.specs.declared.Room.{Room}
use Rattle.table.specs.Formed.{room_fine, is_blank_room}

-- the record at place c of the array: as it should be where the place is in use, else blank
unfoldable pub room_place_fine : ℕ → ℕ → Room → Bool
room_place_fine n c r = if ltb c n then room_fine n c r else is_blank_room r
