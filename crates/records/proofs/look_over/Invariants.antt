use mathlib.Core.Path.{◌≡◌}
use mathlib.Core.Bool.{true}
use Prim.Native.Nat.{ℕ, ◌<◌}
use lib.ListN.{length, get_or}
use Rattle.base.specs.Below.{all_below}
use Rattle.base.specs.Sums.{count_below}
use Rattle.room.specs.Limits.{room_limit}
use Rattle.room.specs.Record.{no_room}
use Rattle.records.specs.Parts.{room_place_fine}
use Rattle.records.specs.Seen.{no_standing, standing}
use Rattle.records.proofs.look_over.Given as goal

-- the rooms before c are fine; their tokens are counted, and their standings written down
abbrev pub invariant-loop-c : goal.invariant-loop-c
invariant-loop-c l = record {
  fine : all_below l.c (λ k. room_place_fine l.n k (get_or l.rooms k no_room)) ≡ true;
  tokens : l.tokens ≡ count_below l.c (λ k. (get_or l.rooms k no_room).token);
  long : length l.standings ≡ room_limit;
  standings : (k : ℕ) → k < l.c → get_or l.standings k no_standing ≡ standing (get_or l.rooms k no_room);
}
