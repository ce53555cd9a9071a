-- The places that are not in use are blank: what the tests of them say.
use Rattle.std.specs.Prelude.{◌≡◌, refl, true, false, eqb, length, replicate}
use Rattle.std.proofs.Common.{sym, ◌∙◌, arith, ext_get_or, eqb-true}
use Rattle.std.proofs.lemmas.Bool.{false≢true, not-true}
use Rattle.std.proofs.lemmas.List.{length-replicate, get_or-replicate}
use Rattle.base.specs.Tests.{and_left, and_right}
use Rattle.base.specs.Below.{all_below, all-at}
use Rattle.std.specs.Prelude.{None}
use Rattle.room.specs.declared.Room.{Room}
use Rattle.room.specs.declared.Entry.{Entry}
use Rattle.room.proofs.Lenders.{is-none}
use Rattle.room.specs.Limits.{room_limit}
use Rattle.room.specs.Record.{no_entry, entry_at, blank_room}
use Rattle.table.specs.declared.Wire.{Wire}
use Rattle.table.specs.declared.Queued.{Queued}
use Rattle.table.specs.declared.Message.{Message}
use Rattle.table.specs.declared.Message.TheVariants as msg
use Rattle.table.specs.Tables.{no_wire, no_queued}
use Rattle.table.specs.Formed.{is_blank_entry, is_blank_room, is_blank_queued, is_nothing, is_blank_wire}

-- queue places
pub blank-queued : (q : Queued) → is_blank_queued q ≡ true → q ≡ no_queued
unfolding is_blank_queued
blank-queued q h = λ i. record { room = room i; mode = mode i }
  where
    room : q.room ≡ 0
    room = eqb-true _ _ (and_left _ _ h)

    mode : q.mode ≡ 0
    mode = eqb-true _ _ (and_right (eqb q.room 0) _ h)

pub queued-blank : (q : Queued) → q ≡ no_queued → is_blank_queued q ≡ true
unfolding is_blank_queued
queued-blank q e = rw e refl

-- messages
nothing_is : (m : Message) → is_nothing m ≡ true → m ≡ msg.Nothing
unfolding is_nothing
nothing_is msg.Nothing h = refl
nothing_is (msg.Request o m idle) h = absurd (false≢true h)
nothing_is (msg.Grant m l) h = absurd (false≢true h)
nothing_is (msg.Token m rest l) h = absurd (false≢true h)
nothing_is (msg.Reduce l m) h = absurd (false≢true h)

pub blank-wire : (w : Wire) → is_blank_wire w ≡ true → w ≡ no_wire
unfolding is_blank_wire
blank-wire w h = λ i. record { «from» = sender i; to = receiver i; message = message i }
  where
    sender : w.«from» ≡ 0
    sender = eqb-true _ _ (search (and_left, and_right) depth 25 fits 4000)

    receiver : w.to ≡ 0
    receiver = eqb-true _ _ (search (and_left, and_right) depth 25 fits 4000)

    message : w.message ≡ msg.Nothing
    message = nothing_is w.message (search (and_left, and_right) depth 25 fits 4000)

pub wire-blank : (w : Wire) → w ≡ no_wire → is_blank_wire w ≡ true
unfolding is_blank_wire is_nothing
wire-blank w e = rw e refl

-- rooms
blank-entry : (e : Entry) → is_blank_entry e ≡ true → e ≡ no_entry
unfolding is_blank_entry
blank-entry e h = λ i. record { mode = mode i; link = link i }
  where
    mode : e.mode ≡ 0
    mode = eqb-true _ _ (and_left _ _ h)

    link : e.link ≡ 0
    link = eqb-true _ _ (and_right (eqb e.mode 0) _ h)

pub blank-room : (r : Room) → length r.entries ≡ room_limit → is_blank_room r ≡ true → r ≡ blank_room
unfolding is_blank_room
blank-room r long h = λ i.
    record {
      held = held i;
      wanted = wanted i;
      token = token i;
      toward = toward i;
      lender = lender i;
      credit = credit i;
      link = link i;
      counter = counter i;
      entries = entries i;
    }
  where
    held : r.held ≡ 0
    held = eqb-true _ _ (search (and_left, and_right) depth 25 fits 4000)

    wanted : r.wanted ≡ 0
    wanted = eqb-true _ _ (search (and_left, and_right) depth 25 fits 4000)

    token : r.token ≡ false
    token = not-true _ (search (and_left, and_right) depth 25 fits 4000)

    toward : r.toward ≡ 0
    toward = eqb-true _ _ (search (and_left, and_right) depth 25 fits 4000)

    lender : r.lender ≡ None
    lender = is-none _ (search (and_left, and_right) depth 25 fits 4000)

    credit : r.credit ≡ 0
    credit = eqb-true _ _ (search (and_left, and_right) depth 25 fits 4000)

    link : r.link ≡ 0
    link = eqb-true _ _ (search (and_left, and_right) depth 25 fits 4000)

    counter : r.counter ≡ 0
    counter = eqb-true _ _ (search (and_left, and_right) depth 25 fits 4000)

    each : all_below room_limit (λ j. is_blank_entry (entry_at r j)) ≡ true
    each = search (and_left, and_right) depth 25 fits 4000

    entries : r.entries ≡ replicate room_limit no_entry
    entries =
        ext_get_or no_entry r.entries (replicate room_limit no_entry) (long ∙ sym (length-replicate room_limit no_entry)) λ j l.
        blank-entry (entry_at r j) (all-at room_limit (λ j. is_blank_entry (entry_at r j)) each j (omega arith))
        ∙ sym (get_or-replicate room_limit j no_entry no_entry (omega arith))

pub room-blank : (r : Room) → r ≡ blank_room → is_blank_room r ≡ true
unfolding is_blank_room is_blank_entry
room-blank r e = rw e refl
