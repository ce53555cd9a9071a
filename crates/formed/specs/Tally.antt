-- What is counted in a table before the last of it is tested.
use Rattle.std.specs.Prelude.{Option, Some, None, ◌&&◌, map, if◌then◌else◌}
use Rattle.std.specs.List.{range_with_len}
use Rattle.room.specs.Limits.{room_limit}
use Rattle.table.specs.declared.Table.{Table}
use Rattle.table.specs.Tables.{room_at, queue_of, messages_of}
use Rattle.table.specs.Formed.{sizes_fit, rooms_fine, queue_fine, wires_fine, names, tokens}
use Rattle.records.specs.Seen.{standing}
use Rattle.formed.specs.declared.Tally.{Tally}

-- the standings of a table's rooms, how often each room is named, and the tokens; nothing where a part is not as it should be
unfoldable pub tally_of : Table → Option Tally
tally_of t =
    if sizes_fit t.n t.queued t.count && rooms_fine t && queue_fine t && wires_fine t
    then Some (record {
      standings = record { n = t.n; rooms = map (λ c. standing (room_at t c)) (range_with_len 0 room_limit) };
      times = map (names (queue_of t) (messages_of t)) (range_with_len 0 room_limit);
      tokens = tokens t.n (room_at t) (messages_of t);
    })
    else None
