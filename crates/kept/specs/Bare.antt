-- Bare well-formedness is not kept: a well formed table of two rooms, an accepted DELIVER on it, and the table after it is not well formed.
use Rattle.std.specs.Prelude.{◌≡◌, refl, true, false, ℕ, ◌<◌, eqb, length, replicate, set}
use Rattle.std.proofs.Common.{eqb-true}
use Rattle.room.specs.Limits.{room_limit}
use Rattle.room.specs.Record.{entry_of, blank_room, with_modes, with_token, is_lender}
use Rattle.room.specs.Owned.{larger, strongest, owned}
use Rattle.room.specs.Rules.{next_link, is_worn, lent_to, lent, settled}
use Rattle.modes.specs.Codes.{IR}
use Rattle.modes.specs.Modes.{agrees, is_stronger, can_lend}
use Rattle.table.specs.declared.Table.{Table}
use Rattle.table.specs.declared.Message.TheVariants as msg
use Rattle.table.specs.Limits.{queue_limit, wire_limit}
use Rattle.table.specs.Tables.{no_wire, no_queued, room_at}
use Rattle.table.specs.Oldest.{oldest_in, oldest_of}
use Rattle.table.specs.Formed.{sizes_fit, entry_fine, room_fine, holds_rightly, owes_rightly, entries_fine, is_blank_entry, is_blank_room, due, queued_fine, is_blank_queued, message_fine, is_granted, names_rightly, wire_fine, is_nothing, is_blank_wire, is_token, tokens, is_named_in, names, rooms_fine, queue_fine, wires_fine, names_fine, well_formed}
use Rattle.base.specs.Below.{all-at}
use Rattle.base.specs.Sums.{sum}
use Rattle.base.specs.Lists.{total, remove}
use Rattle.base.specs.Arrays.{padded}
use Rattle.rules.specs.declared.Event.{Event}
use Rattle.rules.specs.Events.{delivers}
use Rattle.rules.specs.Work.{send, send_out}
use Rattle.rules.specs.Rules.{lend, settle, take_request, receive}
use Rattle.rules.specs.Refusals.{first, is_found, any_worn, refusal_as, refusal}
use Rattle.facts.specs.Shapes.{Shaped}
use Rattle.rules.specs.Step.{after, outcome, delivered, made, step_of}

-- room 0 has the token and wants IR, with a REQUEST of its own on the wire to room 1, which holds IR
unfoldable pub bare_table : Table
bare_table =
    record {
      n = 2;
      rooms = set (set (replicate room_limit blank_room) 0 (with_modes (with_token blank_room true 0) 0 IR)) 1 (with_modes blank_room IR 0);
      queue = replicate queue_limit no_queued;
      queued = 0;
      wires = set (replicate wire_limit no_wire) 0 (record { «from» = 0; to = 1; message = msg.Request 0 IR true });
      count = 1;
    }

-- DELIVER(0, 1)
unfoldable pub bare_event : Event
bare_event = delivers 0 1

-- The delivery is accepted, and puts a GRANT on the way to the room with the token.
pub bare-not-kept : Shaped bare_table × (well_formed bare_table ≡ true) × ((step_of bare_table bare_event).«number» ≡ 0)
    × (well_formed (step_of bare_table bare_event).table ≡ false)
unfolding bare_table bare_event well_formed sizes_fit rooms_fine room_fine holds_rightly owes_rightly is_lender entries_fine entry_fine is_blank_room is_blank_entry queue_fine queued_fine is_blank_queued
    wires_fine wire_fine message_fine is_granted names_rightly is_blank_wire is_nothing tokens is_token names_fine names is_named_in due sum total
    step_of refusal refusal_as first is_found any_worn oldest_of oldest_in made delivered outcome after remove padded
    receive take_request agrees is_stronger can_lend larger strongest owned lend lent lent_to next_link is_worn entry_of settle settled send send_out
bare-not-kept = (record { rooms = refl; entries = entries; queue = refl; wires = refl }, refl, refl, refl)
  where
    entries : (c : ℕ) → c < room_limit → length (room_at bare_table c).entries ≡ room_limit
    entries c l = eqb-true _ _ (all-at room_limit (λ c. eqb (length (room_at bare_table c).entries) room_limit) refl c l)
