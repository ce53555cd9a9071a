-- The arrays of a table are as long as their types say.
use Rattle.std.specs.Prelude.{◌≡◌, ℕ, ◌<◌, length}
use Rattle.room.specs.Limits.{room_limit}
use Rattle.table.specs.declared.Table.{Table}
use Rattle.table.specs.Limits.{queue_limit, wire_limit}
use Rattle.table.specs.Tables.{room_at}

pub record Shaped (t : Table) : Type 0 where
  pub rooms : length t.rooms ≡ room_limit
  pub entries : (c : ℕ) → c < room_limit → length (room_at t c).entries ≡ room_limit
  pub queue : length t.queue ≡ queue_limit
  pub wires : length t.wires ≡ wire_limit
