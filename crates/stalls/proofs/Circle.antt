-- A REQUEST that is sent back to its origin goes to and fro, and more deliveries are accepted than demand 3 allows.
use Rattle.std.specs.Prelude.{ℕ, zero, suc, ◌+◌, ◌<◌, ◌≡◌, refl, List, [], ◌∷◌, eqb}
use Rattle.std.proofs.Common.{arith}
use Rattle.base.specs.Sums.{one}
use Rattle.base.specs.Lists.{remove}
use Rattle.base.specs.Arrays.{padded}
use Rattle.modes.specs.Codes.{R, W}
use Rattle.modes.specs.Modes.{agrees, is_stronger, can_lend}
use Rattle.room.specs.Record.{entry_of, lender_in}
use Rattle.room.specs.Owned.{larger, strongest, owned, has_no_entries}
use Rattle.room.specs.Rules.{next_link, is_worn, lent_to, lent, left, remaining, passed_to, passed, credited, settled, leaving, granted, lifted, tokened_by, tokened, reduced}
use Rattle.table.specs.declared.Table.{Table}
use Rattle.table.specs.Numbers.{DONE}
use Rattle.table.specs.Tables.{fresh_table}
use Rattle.table.specs.Oldest.{oldest_in, oldest_of}
use Rattle.rules.specs.declared.Event.{Event}
use Rattle.rules.specs.Work.{send, join, send_out}
use Rattle.rules.specs.Rules.{hold, want, lend, pass, settle, upgrade_waits, upgraded, serve_queue, serve, is_empty, ask_with, ask_without, ask, upgrade}
use Rattle.rules.specs.Refusals.{first, is_found, any_worn, refusal_as}
use Rattle.rules.specs.Step.{after, outcome}
use Rattle.drain.specs.Drains.{bound}
use Rattle.rules.specs.Events.{asks, delivers}
use Rattle.variants.specs.Step.{Rules, delivered_by, made_by, step_by, runs_by}
use Rattle.stalls.specs.Habits.{circling, settle_or_serve_by, hand_back_by, take_request_by, receive_by, rules_by}

-- room 2 has got the token and writes; room 1 has asked to read, and its REQUEST is at room 0, which sends it back
abbrev pub begun : Table
begun = runs_by (rules_by circling) (fresh_table 3) (asks 2 W ∷ delivers 2 0 ∷ delivers 0 2 ∷ asks 1 R ∷ delivers 1 0 ∷ [])

-- deliveries to and fro, and how many of a list are accepted
unfoldable pub rounds : ℕ → List Event
rounds zero = []
rounds (suc k) = delivers 0 1 ∷ delivers 1 0 ∷ rounds k

unfoldable pub accepted_by : Rules → Table → List Event → ℕ
accepted_by r t [] = 0
accepted_by r t (e ∷ es) = one (eqb (step_by r t e).«number» DONE) + accepted_by r (step_by r t e).table es

-- demand 3 allows 52
circle-bound : bound begun ≡ 52
unfolding runs_by fresh_table step_by made_by delivered_by outcome after first is_found any_worn oldest_of oldest_in take_request_by receive_by settle_or_serve_by hand_back_by ask ask_with ask_without upgrade upgraded upgrade_waits serve_queue serve settle lend pass hold want is_empty send join send_out next_link is_worn lent_to lent lender_in left remaining passed_to passed credited settled leaving granted lifted tokened_by tokened reduced entry_of larger strongest owned has_no_entries agrees is_stronger can_lend remove padded refusal_as
circle-bound = refl

-- and of 54 none is refused
circle-accepted : accepted_by (rules_by circling) begun (rounds 27) ≡ 54
unfolding runs_by fresh_table step_by made_by delivered_by outcome after first is_found any_worn oldest_of oldest_in take_request_by receive_by settle_or_serve_by hand_back_by ask ask_with ask_without upgrade upgraded upgrade_waits serve_queue serve settle lend pass hold want is_empty send join send_out next_link is_worn lent_to lent lender_in left remaining passed_to passed credited settled leaving granted lifted tokened_by tokened reduced entry_of larger strongest owned has_no_entries agrees is_stronger can_lend remove padded refusal_as accepted_by rounds
circle-accepted = refl

-- "at most 3n² + 8n + m further steps are accepted" fails
pub in-a-circle : bound begun < accepted_by (rules_by circling) begun (rounds 27)
in-a-circle = omega (arith, circle-bound, circle-accepted)
