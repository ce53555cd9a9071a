use mathlib.Core.Path.{◌≡◌}
use mathlib.Core.Bool.{true}
use lib.ListN.{take}
use Rattle.std.specs.List.{list_all}
use Rattle.table.specs.Tables.{room_at, messages_of}
use Rattle.table.specs.Formed.{wire_fine}
use Rattle.formed.proofs.Counted.{Counted}
use Rattle.formed.proofs.Tallied.{names_by, tokens_by}
use Rattle.formed.proofs.tally_of.Given as goal

abbrev pub invariant-loop-w : goal.invariant-loop-w
invariant-loop-w l = record {
  fine : list_all (wire_fine l.t.n (room_at l.t)) (take l.w-index (messages_of l.t)) ≡ true;
  times : Counted l.times (names_by l.t l.w-index);
  tokens : l.tokens ≡ tokens_by l.t l.w-index;
}
