-- "Letting a room without the token lend to one that itself has entries: two rooms may then owe each other and nobody answers to the token."
use Rattle.std.specs.Prelude.{◌≡◌, refl, ◌≢◌, true, [], ◌∷◌}
use Rattle.std.proofs.Math.Path.{subst⁻¹}
use mathlib.Core.List.Memᴰ
use Rattle.std.proofs.Common.{arith}
use Rattle.base.specs.Lists.{Mem, remove}
use Rattle.base.specs.Arrays.{padded}
use Rattle.base.specs.Tests.{clash}
use Rattle.modes.specs.Codes.{R, W}
use Rattle.modes.specs.Modes.{agrees, is_stronger, can_lend}
use Rattle.room.specs.Record.{entry_of, is_lender, lender_in}
use Rattle.room.specs.Owned.{larger, strongest, owned}
use Rattle.room.specs.Rules.{next_link, is_worn, lent_to, lent, settled, leaving, granted}
use Rattle.std.specs.Prelude.{Some}
use Rattle.room.proofs.Lenders.{nobody-lends}
use Rattle.table.specs.declared.Table.{Table}
use Rattle.table.specs.declared.Wire.{Wire}
use Rattle.table.specs.Tables.{Answer}
use Rattle.table.specs.declared.Message.TheVariants as msg
use Rattle.table.specs.Tables.{room_at, messages_of}
use Rattle.table.specs.Oldest.{oldest_in, oldest_of}
use Rattle.table.specs.Formed.{is_token}
use Rattle.rules.specs.declared.Event.{Event}
use Rattle.rules.specs.Work.{send, send_out}
use Rattle.rules.specs.Rules.{hold, lend, settle, upgrade_waits, upgraded, is_empty}
use Rattle.rules.specs.Refusals.{first, is_found, any_worn, refusal_as}
use Rattle.rules.specs.Step.{after, outcome}
use Rattle.facts.specs.Wires.{wire}
use Rattle.tree.specs.Tree.{is_grant, Tree}
use Rattle.safe.specs.Reached.{Demand3}
use Rattle.safe.specs.Step.{Safe, step-safe}
use Rattle.rules.specs.Events.{asks, delivers}
use Rattle.variants.specs.Step.{delivered_by, made_by, step_by, runs_by}
use Rattle.shortcuts.specs.Choices.{right, lent_to_anyone}
use Rattle.shortcuts.specs.Rules.{reduced_by, serve_queue_by, serve_by, settle_or_serve_by, ask_by, take_request_by, receive_by, rules_by}
use Rattle.shortcuts.proofs.Same.{same_once}
use Rattle.shortcuts.proofs.Ends.{held_in}
use Rattle.shortcuts.proofs.Forbidden.{held-forbidden}
use Rattle.shortcuts.specs.Crossing.{crossing, crossing-safe}

-- room 2's REQUEST is delivered to room 1, which lends
unfoldable pub crossed : Table
crossed = runs_by (rules_by lent_to_anyone) crossing (delivers 2 1 ∷ [])

-- then room 2 takes the loan and repays room 0, which asks for a write
unfoldable pub unanswered : Table
unanswered = runs_by (rules_by lent_to_anyone) crossed (delivers 1 2 ∷ delivers 2 0 ∷ asks 0 W ∷ [])

record Owes : Type 0 where
  -- room 1 still owes room 2, and its own GRANT is under way there
  debt : (room_at crossed 1).lender ≡ Some 2
  grant : messages_of crossed ≡ wire 1 2 (msg.Grant R 1) ∷ []
  -- room 0 writes beside two reads
  held : held_in unanswered ≡ W ∷ R ∷ R ∷ []

owes : Owes
unfolding crossing crossed unanswered runs_by step_by made_by delivered_by outcome after refusal_as first is_found any_worn oldest_of oldest_in
    reduced_by serve_queue_by serve_by settle_or_serve_by ask_by take_request_by receive_by upgraded upgrade_waits settle lend hold is_empty send send_out
    next_link is_worn lent_to lent settled leaving is_lender lender_in granted entry_of larger strongest owned agrees is_stronger can_lend remove padded
owes = record { debt = refl; grant = refl; held = refl }

-- By the rules every event leads on to a table with the invariant.
pub crossing-right : (e : Event) → Safe 3 (step_by (rules_by right) crossing e).table
crossing-right e =
    subst⁻¹ (λ (r : Answer). Safe 3 r.table) (same_once crossing e crossing-safe.lawful.0) (step-safe 3 crossing crossing-safe e)

-- By the shortcut no ranks are left: rooms 1 and 2 would each rank above the other.
pub crossed-owing : Tree 3 (room_at crossed) (messages_of crossed) → ⊥
unfolding is_token is_grant
crossed-owing tree =
    let there : Mem (wire 1 2 (msg.Grant R 1)) (messages_of crossed) = rw owes.grant (Memᴰ.head refl) in
    omega (
      arith,
      tree.grant (wire 1 2 (msg.Grant R 1)) there refl,
      rw owes.debt at (tree.lender 1 (omega arith) (λ e. nobody-lends e owes.debt) no-token),
    )
  where
    no-token : (w : Wire) → Mem w (messages_of crossed) → is_token w.message ≡ true → w.to ≢ 1
    no-token w i t = clash t (rw (Memᴰ.eq_of_singleton (rw owes.grant at i)) refl)

pub crossed-unsafe : Safe 3 crossed → ⊥
crossed-unsafe s = crossed-owing (rw s.rooms at s.invariant.clauses.tree)

-- And nobody answers to the token: from there it leads to a table that demand 3 forbids.
pub lent-to-anyone : Demand3 3 unanswered → ⊥
unfolding agrees
lent-to-anyone = held-forbidden unanswered W R R owes.held refl
