-- What is seen of the rooms: all that the queue and the messages are tested against.
use Rattle.std.specs.Prelude.{ℕ, false, List, get_or, map, Option, Some, None, if◌then◌else◌}
use Rattle.std.specs.List.{range_with_len}
use Rattle.base.specs.Below.{all_below}
use Rattle.base.specs.Sums.{count_below}
use Rattle.room.specs.declared.Room.{Room}
use Rattle.room.specs.Limits.{room_limit}
use Rattle.room.specs.Record.{no_room}
use Rattle.table.specs.Formed.{due}
use Rattle.records.specs.declared.Standing.{Standing}
use Rattle.records.specs.declared.Seen.{Seen}
use Rattle.records.specs.Parts.{room_place_fine}

-- of a room that does not wait and has no token
abbrev pub no_standing : Standing
no_standing = record { due = 0; token = false }

-- the mode that a room waits for, and whether it has the token
unfoldable pub standing : Room → Standing
standing r = record { due = due r; token = r.token }

-- the standing of room c in an array of them; none past its end
abbrev pub standing_at : List Standing → ℕ → Standing
standing_at standings c = get_or standings c no_standing

-- what is seen of an array of rooms, of which n are in use; nothing where one is not fine
unfoldable pub seen_in : ℕ → List Room → Option Seen
seen_in n rooms =
    if all_below room_limit (λ c. room_place_fine n c (get_or rooms c no_room))
    then Some (record {
      tokens = count_below room_limit (λ c. (get_or rooms c no_room).token);
      standings = record { n = n; rooms = map (λ c. standing (get_or rooms c no_room)) (range_with_len 0 room_limit) };
    })
    else None
