-- What never serving and forgetting lead to from a fresh table: a drain that stops with a room waiting.
use Rattle.std.specs.Prelude.{◌≡◌, refl, true, false, [], ◌∷◌}
use Rattle.base.specs.Lists.{remove}
use Rattle.base.specs.Arrays.{padded}
use Rattle.modes.specs.Codes.{W}
use Rattle.modes.specs.Modes.{agrees, is_stronger, can_lend}
use Rattle.room.specs.Record.{entry_of, lender_in}
use Rattle.room.specs.Owned.{larger, strongest, owned, has_no_entries}
use Rattle.room.specs.Rules.{next_link, is_worn, lent_to, lent, left, remaining, passed_to, passed, credited, settled, leaving, granted, lifted, tokened_by, tokened, reduced}
use Rattle.table.specs.declared.Table.{Table}
use Rattle.table.specs.Tables.{room_at, fresh_table}
use Rattle.table.specs.Oldest.{oldest_in, oldest_of}
use Rattle.rules.specs.Work.{send, join, send_out}
use Rattle.rules.specs.Rules.{hold, want, lend, pass, settle, upgrade_waits, upgraded, serve_queue, serve, is_empty, ask_with, ask_without, ask, upgrade}
use Rattle.rules.specs.Refusals.{first, is_found, any_worn, refusal_as}
use Rattle.rules.specs.Step.{after, outcome}
use Rattle.rules.specs.Events.{asks, delivers}
use Rattle.variants.specs.Step.{delivered_by, made_by, step_by, runs_by}
use Rattle.variants.specs.Rests.{Rests, is_still, rests}
use Rattle.stalls.specs.Habits.{Habits, right, never_serving, forgetting, settle_or_serve_by, hand_back_by, take_request_by, receive_by, rules_by}

-- room 1 asks to write, and its REQUEST arrives at room 0, which has the token
abbrev pub asked : Habits → Table
asked h = runs_by (rules_by h) (fresh_table 2) (asks 1 W ∷ delivers 1 0 ∷ [])

pub record Stalls : Type 0 where
  -- nobody is served: room 1 waits, and nothing can be done
  pub unserved : is_still (asked never_serving) ≡ true
  pub unserved-waits : (room_at (asked never_serving) 1).wanted ≡ W
  -- room 1 is forgotten
  pub forgotten : is_still (asked forgetting) ≡ true
  pub forgotten-waits : (room_at (asked forgetting) 1).wanted ≡ W
  -- by the rules the TOKEN is under way to it
  pub passed : is_still (asked right) ≡ false

pub stalls : Stalls
unfolding is_still runs_by fresh_table step_by made_by delivered_by outcome after first is_found any_worn oldest_of oldest_in take_request_by receive_by settle_or_serve_by hand_back_by ask ask_with ask_without upgrade upgraded upgrade_waits serve_queue serve settle lend pass hold want is_empty send join send_out next_link is_worn lent_to lent lender_in left remaining passed_to passed credited settled leaving granted lifted tokened_by tokened reduced entry_of larger strongest owned has_no_entries agrees is_stronger can_lend remove padded refusal_as
stalls =
    record {
      unserved = refl;
      unserved-waits = refl;
      forgotten = refl;
      forgotten-waits = refl;
      passed = refl;
    }

-- "When no more can be accepted nobody waits" fails for a rule that never serves, and for one that forgets
pub never-serving : Rests (rules_by never_serving) (asked never_serving) × ((room_at (asked never_serving) 1).wanted ≡ W)
never-serving = (rests (rules_by never_serving) (asked never_serving) stalls.unserved, stalls.unserved-waits)

pub forgotten-room : Rests (rules_by forgetting) (asked forgetting) × ((room_at (asked forgetting) 1).wanted ≡ W)
forgotten-room = (rests (rules_by forgetting) (asked forgetting) stalls.forgotten, stalls.forgotten-waits)
