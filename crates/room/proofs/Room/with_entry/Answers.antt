use Rattle.std.proofs.Common.{arith}
use Rattle.room.proofs.Known.{entries-long}
use Rattle.room.proofs.Laws.{set_past}
use Rattle.room.proofs.Room.with_entry.Goals as goal

pub returns-else-at-lt-ROOMS : goal.returns-else-at-lt-ROOMS
returns-else-at-lt-ROOMS c =
    let long = entries-long c.args.self c.well_formed.0 in
    set_past _ _ _ (omega arith)
