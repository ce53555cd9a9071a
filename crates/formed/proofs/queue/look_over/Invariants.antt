use mathlib.Core.Path.{◌≡◌}
use mathlib.Core.Bool.{true}
use lib.ListN.{take}
use Rattle.std.specs.List.{list_all}
use Rattle.table.specs.Formed.{queued_fine}
use Rattle.formed.specs.Standings.{rooms_of}
use Rattle.formed.proofs.Counted.{Counted, places_naming}
use Rattle.formed.proofs.queue.look_over.Given as goal

abbrev pub invariant-loop-q : goal.invariant-loop-q
invariant-loop-q l = record {
  fine : list_all (queued_fine l.standings.n (rooms_of l.standings.rooms)) (take l.q-index l.queue) ≡ true;
  times : Counted l.times (places_naming (take l.q-index l.queue));
}
