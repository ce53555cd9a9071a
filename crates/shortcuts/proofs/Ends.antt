-- How the sessions end under the shortcuts, computed.
use Rattle.std.specs.Prelude.{ℕ, ◌≡◌, refl, true, List, [], ◌∷◌}
use Rattle.base.specs.Lists.{remove}
use Rattle.base.specs.Arrays.{padded}
use Rattle.modes.specs.Codes.{none, IR, R, W}
use Rattle.modes.specs.Modes.{agrees, is_stronger, can_lend}
use Rattle.room.specs.Record.{entry_of, is_lender, lender_in}
use Rattle.room.specs.Owned.{larger, strongest, owned, has_no_entries}
use Rattle.room.specs.Rules.{next_link, is_worn, lent_to, lent, credited, settled, leaving, granted, lifted, tokened_by, tokened}
use Rattle.table.specs.declared.Table.{Table}
use Rattle.table.specs.Tables.{room_at, fresh_table}
use Rattle.table.specs.Oldest.{oldest_in, oldest_of}
use Rattle.rules.specs.declared.Event.{Event}
use Rattle.rules.specs.Work.{send, join, send_out}
use Rattle.rules.specs.Rules.{hold, want, lend, settle, upgrade_waits, upgraded, is_empty, upgrade}
use Rattle.rules.specs.Refusals.{first, is_found, any_worn, refusal_as}
use Rattle.rules.specs.Step.{after, outcome}
use Rattle.variants.specs.Step.{delivered_by, made_by, step_by, runs_by}
use Rattle.variants.specs.Rests.{is_still}
use Rattle.shortcuts.specs.Choices.{Choices, right, matched_by_room, tested_by_held, entry_left, counter_unlifted}
use Rattle.shortcuts.specs.Rules.{reduced_by, tokened_as, passed_as, pass_by, serve_queue_by, serve_by, settle_or_serve_by, ask_by, hand_back_by, take_request_by, receive_by, rules_by}
use Rattle.shortcuts.specs.Sessions.{spring, held_or_owned, entry_cleared, counter_lifted}

-- the table of three rooms that a session leads to
abbrev pub end_of : Choices → List Event → Table
end_of c es = runs_by (rules_by c) (fresh_table 3) es

-- the modes that the three rooms hold
abbrev pub held_in : Table → List ℕ
held_in t = (room_at t 0).held ∷ (room_at t 1).held ∷ (room_at t 2).held ∷ []

pub record Ends : Type 0 where
  -- room 2 writes beside room 1's read
  pub by-room : held_in (end_of matched_by_room spring) ≡ none ∷ R ∷ W ∷ []
  -- room 0 writes beside room 1's intent to read
  pub by-held : held_in (end_of tested_by_held held_or_owned) ≡ W ∷ IR ∷ none ∷ []
  -- nothing is under way and nobody could hand back, and room 0 waits for its write; by the rules it has it
  pub left-still : is_still (end_of entry_left entry_cleared) ≡ true
  pub left-waits : (room_at (end_of entry_left entry_cleared) 0).wanted ≡ W
  pub cleared : held_in (end_of right entry_cleared) ≡ W ∷ none ∷ none ∷ []
  -- room 2 writes beside room 0's read
  pub unlifted : held_in (end_of counter_unlifted counter_lifted) ≡ R ∷ none ∷ W ∷ []

pub ends : Ends
unfolding spring held_or_owned entry_cleared counter_lifted is_still
    runs_by fresh_table step_by made_by delivered_by outcome after refusal_as first is_found any_worn oldest_of oldest_in
    reduced_by tokened_as passed_as pass_by serve_queue_by serve_by settle_or_serve_by ask_by hand_back_by take_request_by receive_by
    upgrade upgraded upgrade_waits settle lend hold want is_empty send join send_out
    next_link is_worn lent_to lent credited settled leaving is_lender lender_in granted lifted tokened_by tokened entry_of larger strongest owned has_no_entries
    agrees is_stronger can_lend remove padded
ends = record { by-room = refl; by-held = refl; left-still = refl; left-waits = refl; cleared = refl; unlifted = refl }
