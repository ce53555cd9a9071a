use Rattle.std.proofs.Common.{◌≡◌, ℕ, Bool, true, eqb}
use Rattle.base.specs.Below.{all_below}
use Rattle.room.specs.declared.Room.{Room}
use Rattle.room.specs.Record.{entry_at}
use Rattle.room.proofs.Room.has_no_entries.Given as goal

-- the test of one entry
abbrev pub is_none : Room → ℕ → Bool
is_none r j = eqb (entry_at r j).mode 0

abbrev pub invariant-loop-e : goal.invariant-loop-e
invariant-loop-e l = all_below l.e-index (is_none l.fn.self) ≡ true
