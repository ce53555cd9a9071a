use Rattle.std.proofs.Common.{◌≡◌, sym, ◌∙◌, arith}
use borrow.Author.Rules.{rules}
use borrow.Author.Tests.{eq-eqb, ne_eqb}
use Rattle.base.specs.Below.{all_more, all-fails}
use Rattle.room.specs.Limits.{room_limit}
use Rattle.room.proofs.Laws.{no-entries-all}
use Rattle.room.proofs.Room.has_no_entries.Invariants.{is_none}
use Rattle.room.proofs.Room.has_no_entries.Goals as goal

pub returns-in-1-to-255 : goal.returns-in-1-to-255
returns-in-1-to-255 c =
    let r = c.args.self in
    let i = c.loop-e.e-index in
    sym (all-fails (is_none r) room_limit i (omega arith) (ne_eqb _ _ (search rules))) ∙ no-entries-all r

pub loop-e-preserved : goal.loop-e-preserved
loop-e-preserved c = all_more (is_none c.args.self) c.loop-e.e-index c.loop-e.invariant (eq-eqb _ _ c.in-0.is)

pub returns : goal.returns
returns c =
    let e : c.loop-e.e-index ≡ room_limit = omega arith in
    sym (rw e at c.loop-e.invariant) ∙ no-entries-all _
