-- "Twelve to be proved": a single table with a single claim.
use Rattle.std.specs.Prelude.{ℕ, ◌≡◌, refl, Bool, true, not, ◌&&◌, List, [], ◌∷◌, set, replicate, eqb}
use Rattle.base.specs.Sums.{sum}
use Rattle.base.specs.Lists.{total, remove}
use Rattle.base.specs.Arrays.{padded}
use Rattle.modes.specs.Codes.{none, IR, R, U, IW, W}
use Rattle.modes.specs.Modes.{agrees, is_stronger, can_lend}
use Rattle.room.specs.Limits.{room_limit}
use Rattle.room.specs.Record.{blank_room, entry_of, entry_at, with_token, set_entry, is_lender, lender_in}
use Rattle.room.specs.Owned.{larger, strongest, owned, has_no_entries}
use Rattle.room.specs.Rules.{next_link, is_worn, lent_to, lent, left, remaining, passed_to, passed, credited, settled, leaving, granted, lifted, tokened_by, tokened, reduced}
use Rattle.table.specs.declared.Table.{Table}
use Rattle.table.specs.declared.Message.TheVariants as msg
use Rattle.table.specs.Limits.{queue_limit, wire_limit}
use Rattle.table.specs.Tables.{no_wire, no_queued, room_at, fresh_table, blank_table, fresh_of}
use Rattle.table.specs.Oldest.{oldest_in, oldest_of}
use Rattle.table.specs.Formed.{sizes_fit, entry_fine, room_fine, holds_rightly, owes_rightly, entries_fine, is_blank_entry, is_blank_room, due, queued_fine, is_blank_queued, message_fine, is_granted, names_rightly, wire_fine, is_nothing, is_blank_wire, is_token, tokens, is_named_in, names, rooms_fine, queue_fine, wires_fine, names_fine, well_formed}
use Rattle.rules.specs.Events.{asks, upgrades, hands_back, delivers}
use Rattle.rules.specs.Work.{send, join, send_out}
use Rattle.rules.specs.Rules.{hold, want, lend, pass, settle, upgrade_waits, upgraded, serve_queue, serve, settle_or_serve, is_empty, ask_with, ask_without, ask, upgrade, hand_back, take_request, receive}
use Rattle.rules.specs.Refusals.{first, is_found, any_worn, refusal_as, refusal}
use Rattle.rules.specs.Step.{after, outcome, delivered, made, step_of, runs}

-- a room's held and wanted mode
abbrev pub modes_are : Table → ℕ → ℕ → ℕ → Bool
modes_are t x h w = eqb (room_at t x).held h && eqb (room_at t x).wanted w

-- room 0 has the token and an entry for room 1, IR with link 7; a REDUCE with link 6 is on its way from room 1
unfoldable pub lent_table : Table
lent_table =
    record {
      n = 2;
      rooms = set (replicate room_limit blank_room) 0 (set_entry (with_token blank_room true 0) 1 (record { mode = IR; link = 7 }));
      queue = replicate queue_limit no_queued;
      queued = 0;
      wires = set (replicate wire_limit no_wire) 0 (record { «from» = 1; to = 0; message = msg.Reduce 6 none });
      count = 1;
    }

-- room 0 has the token and holds U; room 1 has been lent IR
unfoldable pub lending : Table
lending = runs (fresh_table 2) (asks 0 U ∷ asks 1 IR ∷ delivers 1 0 ∷ delivers 0 1 ∷ [])

unfoldable pub twelve : List Bool
twelve =
    -- U agrees with R; U not with U; IW not with R; IR with IW
    agrees U R
    ∷ not (agrees U U)
    ∷ not (agrees IW R)
    ∷ agrees IR IW
    -- IW lends IR; R does not lend U
    ∷ can_lend IW IR
    ∷ not (can_lend R U)
    -- fresh n = 16 done, 17 gives 3
    ∷ eqb (fresh_of 16).«number» 0
    ∷ eqb (fresh_of 17).«number» 3
    -- n = 1, ASK W on fresh holds W at once
    ∷ (eqb (step_of (fresh_table 1) (asks 0 W)).«number» 0 && modes_are (step_of (fresh_table 1) (asks 0 W)).table 0 W none)
    -- UPGRADE holding R gives 7
    ∷ eqb (step_of (runs (fresh_table 1) (asks 0 R ∷ [])) (upgrades 0)).«number» 7
    -- an entry IR with link 7 stays on REDUCE link 6
    ∷ (eqb (step_of lent_table (delivers 1 0)).«number» 0 && eqb (entry_at (room_at (step_of lent_table (delivers 1 0)).table 0) 1).mode IR
    && eqb (entry_at (room_at (step_of lent_table (delivers 1 0)).table 0) 1).link 7)
    -- a token room that holds U with one entry, IR, waits on UPGRADE and holds W once that entry's REDUCE is delivered
    ∷ (eqb (entry_at (room_at lending 0) 1).mode IR && modes_are (runs lending (upgrades 0 ∷ [])) 0 U W
    && modes_are (runs lending (upgrades 0 ∷ hands_back 1 ∷ [])) 0 U W && modes_are (runs lending (upgrades 0 ∷ hands_back 1 ∷ delivers 1 0 ∷ [])) 0 W none)
    ∷ []

unfoldable pub all_hold : List Bool → Bool
all_hold [] = true
all_hold (b ∷ bs) = b && all_hold bs

pub twelve-hold : all_hold twelve ≡ true
unfolding all_hold twelve runs lent_table lending fresh_of fresh_table blank_table step_of made delivered outcome after refusal refusal_as first is_found any_worn oldest_of oldest_in
    well_formed sizes_fit rooms_fine queue_fine wires_fine names_fine room_fine holds_rightly owes_rightly is_lender entries_fine entry_fine is_blank_room is_blank_entry due queued_fine is_blank_queued message_fine is_granted names_rightly wire_fine is_nothing is_blank_wire is_token tokens is_named_in names
    ask ask_with ask_without upgrade hand_back settle_or_serve serve serve_queue upgraded upgrade_waits settle pass lend hold want is_empty take_request receive send join send_out
    next_link is_worn lent_to lent lender_in left remaining passed_to passed credited settled leaving granted lifted tokened_by tokened reduced entry_of larger strongest owned has_no_entries
    agrees is_stronger can_lend sum total remove padded
twelve-hold = refl
