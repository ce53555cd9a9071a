use native.Mathlib.Omega.{arith}
use mathlib.Core.Path.{◌≡◌}
use Prim.Native.Nat.{◌<◌}
use lib.ListN.{length-take}
use lib.Seq.{get_or-take}
use Rattle.room.specs.Record.{no_room}
use Rattle.table.proofs.Known.{rooms-long}
use mathlib.Core.Bool.{true}
use borrow.Author.Tests.{lt-ltb, le-ltb}
use Rattle.base.specs.Below.{all_more, all-fails}
use Rattle.plan.proofs.Numbers.{refused-is, ask-below, ask-above, ask-waiting, ask-held, ask-busy, ask-worn, ask-made, ask-is}
use borrow.Author.Rules.{rules}
use Rattle.plan.proofs.ask.Invariants.{fresh}
use Rattle.plan.proofs.ask.Goals.{in_default-via-then-e-lt1, in_default-via-else-e-lt1+else-e-lt6}
use Rattle.plan.proofs.ask.Goals as goal

pub returns-in_default : goal.returns-in_default
returns-in_default c =
    refused-is _ _ true 4 (λ q. omega arith)
    (elim c.in_default.branch [
      | in_default-via-then-e-lt1 w ↦ ask-below _ _ c.requires (omega arith)
      | in_default-via-else-e-lt1+else-e-lt6 w ↦ ask-above _ _ c.requires (omega arith)
    ])

pub returns-in-1-to-255 : goal.returns-in-1-to-255
returns-in-1-to-255 c = refused-is _ _ true 5 (λ q. omega arith) (ask-waiting _ _ (search rules) (omega arith) (omega arith) (λ q. omega arith))

pub returns-in-1-to-255-held : goal.returns-in-1-to-255-held
returns-in-1-to-255-held c = refused-is _ _ true 6 (λ q. omega arith) (ask-held _ _ (search rules) (omega arith) (omega arith) c.in-0.is (λ q. omega arith))

pub returns-then-t-ge-BUSY_MESSAGES : goal.returns-then-t-ge-BUSY_MESSAGES
returns-then-t-ge-BUSY_MESSAGES c = refused-is _ _ true 9 (λ q. omega arith) (ask-busy _ _ (search rules) (omega arith) (omega arith) c.in-0.is c.in-0-held.is (omega arith))

pub returns-then-r-ge-WORN_COUNTER : goal.returns-then-r-ge-WORN_COUNTER
returns-then-r-ge-WORN_COUNTER c =
    let t = c.args.t in
    let low : c.loop-r.r-index < t.n = omega (arith, length-take t.n t.rooms, c.loop-r-test.true) in
    refused-is _ _ true 10 (λ q. omega arith)
    (ask-worn _ _ c.requires (omega arith) (omega arith) c.in-0.is c.in-0-held.is (omega arith)
    (all-fails (fresh t) _ c.loop-r.r-index low (rw (get_or-take t.n t.rooms _ no_room low) at (le-ltb _ _ c.if-r-ge-WORN_COUNTER.true))))

pub loop-r-preserved : goal.loop-r-preserved
loop-r-preserved c =
    let t = c.args.t in
    let low : c.loop-r.r-index < t.n = omega (arith, length-take t.n t.rooms, c.loop-r-test.true) in
    all_more (fresh t) c.loop-r.r-index c.loop-r.invariant (rw (get_or-take t.n t.rooms _ no_room low) at (lt-ltb _ _ c.if-r-ge-WORN_COUNTER.false))

pub returns : goal.returns
returns c =
    let t = c.args.t in
    let all : c.loop-r.r-index ≡ t.n =
    omega (arith, length-take t.n t.rooms, c.loop-r-test.false, c.loop-r.auto.r-index-end, rooms-long t c.well_formed.0, c.requires.low) in
    ask-is _ _ c.requires (ask-made _ _ c.requires (omega arith) (omega arith) c.in-0.is c.in-0-held.is (omega arith) (rw all at c.loop-r.invariant))
    _ c.start.ensures _ c.ask-done.ensures
