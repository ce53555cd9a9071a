-- The modes of a room: its entries, and past them the mode that it holds.
use Rattle.std.specs.Prelude.{ℕ, ltb, if◌then◌else◌}
use Rattle.room.specs.declared.Room.{Room}
use Rattle.room.specs.Limits.{room_limit}
use Rattle.room.specs.Record.{entry_at}

unfoldable pub part : Room → ℕ → ℕ
part r k = if ltb k room_limit then (entry_at r k).mode else r.held
