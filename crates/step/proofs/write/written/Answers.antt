use Rattle.table.proofs.Known.{wires-long}
use Rattle.step.proofs.Writes.{written_is}
use Rattle.step.proofs.write.written.Goals as goal

pub returns : goal.returns
returns c =
    let t = c.args.t in
    let fits = rw (← c.p.view_is) at c.requires in
    rw (← c.p.view_is)
    (written_is t _ fits.takes (wires-long t c.well_formed.0) _ c.take_out.ensures _ c.room.ensures _ c.queue-queue.ensures
    _ c.places_of-u.ensures _ c.left-kept.ensures _ c.sent-sent.ensures _ c.copy_from_slice.ensures.after)
