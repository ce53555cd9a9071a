-- What goes in: a room and the queue, as the work that they begin.
use Rattle.std.specs.Prelude.{false, [], take}
use Rattle.rules.specs.Work.{Work}
use Rattle.act.specs.declared.Start.{Start}

-- a room before it has done anything
abbrev pub start_of : Start → Work
start_of s = record { me = s.me; room = s.room; queue = take s.queued s.queue; sent = []; worn = false }
