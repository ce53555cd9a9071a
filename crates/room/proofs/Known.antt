-- What owning a room's record tells of its value.
use mathlib.Core.Path.{◌≡◌}
use mathlib.Core.List.{List}
use lib.ListN.{length}
use mir.Val.{Val}
use denote.Laws.{Is}
use Rattle.room.specs.declared.Room.{Room}
use Rattle.room.specs.Limits.{room_limit}
use Rattle.room.specs.contracts.Room.{the_row}

-- the array of entries, field 8, is as long as its type says
pub entries-long : (r : Room) {vs : List Val} → Is the_row r vs → length r.entries ≡ room_limit
entries-long r g = g.1.1.1.1.1.1.1.1.1.1.0.1.0.1
