use Rattle.std.proofs.Common.{◌≡◌, ◌≤◌, ◌+◌, ◌*◌, ◌++◌, length, take}
use Rattle.writing.specs.Words.{held_text}
use Rattle.writing.proofs.push_modes.Given as goal

abbrev pub invariant-loop-room : goal.invariant-loop-room
invariant-loop-room l =
    (l.line.bytes ≡ l.initial.line.bytes ++ held_text (take l.room-index l.rooms)) × (length l.line.bytes ≤ length l.initial.line.bytes + 3 * l.room-index)
