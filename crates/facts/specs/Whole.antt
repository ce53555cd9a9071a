-- The test of well-formedness and the facts of it are the same.
use Rattle.std.specs.Prelude.{◌≡◌, Bool, ℕ, ◌≤◌, ◌<◌, if◌then◌else◌}
use Rattle.std.proofs.Math.Bool.{true}
use Rattle.std.proofs.Common.{arith}
use Rattle.std.proofs.Math.Dec.{ltb, eqb}
use borrow.Author.Tests.{leb-true, ltb-true, ltb-false, eqb-true, le-leb, lt-ltb, le-ltb, eq-eqb}
use Rattle.base.specs.Choice.{by-test}
use Rattle.base.specs.Tests.{and_left, and_right, ◌also◌}
use Rattle.base.specs.Below.{all-at, all_of}
use Rattle.base.specs.Sums.{one}
use Rattle.base.specs.Lists.{Mem}
use Rattle.base.specs.Arrays.{padded}
use Rattle.room.specs.Limits.{room_limit}
use Rattle.room.specs.Record.{blank_room}
use Rattle.table.specs.declared.Table.{Table}
use Rattle.table.specs.declared.Wire.{Wire}
use Rattle.table.specs.declared.Queued.{Queued}
use Rattle.table.specs.Limits.{queue_limit, wire_limit}
use Rattle.table.specs.Tables.{no_wire, no_queued, room_at, queue_of, messages_of}
use Rattle.table.specs.Formed.{sizes_fit, room_fine, is_blank_room, due, queued_fine, is_blank_queued, wire_fine, is_blank_wire, tokens, names, rooms_fine, queue_fine, wires_fine, names_fine, well_formed}
use Rattle.facts.specs.Places.{used-member, used-padded, places-test, places}
use Rattle.facts.specs.Shapes.{Shaped}
use Rattle.facts.specs.Rooms.{room-facts, room-test}
use Rattle.facts.specs.Moments.{Formed, queued-facts, queued-test, message-facts, message-test}
use Rattle.facts.specs.Blank.{blank-queued, queued-blank, blank-wire, wire-blank, blank-room, room-blank}

pub record WellFormed (t : Table) : Type 0 where
  -- "n .. counts .. in range"
  pub some : 1 ≤ t.n
  pub low : t.n ≤ room_limit
  pub queued : t.queued ≤ queue_limit
  pub count : t.count ≤ wire_limit
  -- what is in use
  pub formed : Formed t.n (room_at t) (queue_of t) (messages_of t)
  -- "Records of rooms n and above .. are all none or zero, and so are queue places and messages past those in use."
  pub rooms-blank : (c : ℕ) → t.n ≤ c → c < room_limit → room_at t c ≡ blank_room
  pub queue-blank : t.queue ≡ padded queue_limit no_queued (queue_of t)
  pub wires-blank : t.wires ≡ padded wire_limit no_wire (messages_of t)

-- whatever the arrays' lengths, a table that passes the test has no more rooms than there are records
pub rooms-low : (t : Table) → well_formed t ≡ true → t.n ≤ room_limit
unfolding well_formed sizes_fit
rooms-low t h = leb-true _ _ (search (and_left, and_right) depth 25 fits 4000)

module _ (t : Table) (s : Shaped t) where
  pub facts-of : well_formed t ≡ true → WellFormed t
  unfolding well_formed sizes_fit rooms_fine queue_fine wires_fine names_fine places
  facts-of h =
      record {
        some = leb-true _ _ (search (and_left, and_right) depth 25 fits 4000);
        low = low;
        queued = queued;
        count = count;
        formed =
            record {
              room = λ c l. room-facts t.n c (room_at t c) (rw (lt-ltb c t.n l) at (room c (omega (arith, low))));
              queued = λ q m. queued-facts t.n (room_at t) q (each-queued q m);
              message = λ w m. message-facts t.n (room_at t) w (each-wire w m);
              token = eqb-true _ _ (search (and_left, and_right) depth 25 fits 4000);
              named = λ c l. eqb-true _ _ (all-at t.n (λ c. eqb (names (queue_of t) (messages_of t) c) (one (ltb 0 (due (room_at t c))))) named c l);
            };
        rooms-blank = λ c a b. blank-room (room_at t c) (s.entries c b) (rw (le-ltb c t.n a) at (room c b));
        queue-blank = used-padded queue_limit no_queued t.queue t.queued (queued_fine t.n (room_at t)) is_blank_queued s.queue queued queue blank-queued;
        wires-blank = used-padded wire_limit no_wire t.wires t.count (wire_fine t.n (room_at t)) is_blank_wire s.wires count wires blank-wire;
      }
    where
      low : t.n ≤ room_limit
      low = rooms-low t h

      queued : t.queued ≤ queue_limit
      queued = leb-true _ _ (search (and_left, and_right) depth 25 fits 4000)

      count : t.count ≤ wire_limit
      count = leb-true _ _ (search (and_left, and_right) depth 25 fits 4000)

      room : (c : ℕ) → c < room_limit → (if ltb c t.n then room_fine t.n c (room_at t c) else is_blank_room (room_at t c)) ≡ true
      room =
          all-at room_limit (λ c. if ltb c t.n then room_fine t.n c (room_at t c) else is_blank_room (room_at t c))
          (search (and_left, and_right) depth 25 fits 4000)

      queue : places queue_limit no_queued t.queue t.queued (queued_fine t.n (room_at t)) is_blank_queued ≡ true
      queue = search (and_left, and_right) depth 25 fits 4000

      each-queued : (q : Queued) → Mem q (queue_of t) → queued_fine t.n (room_at t) q ≡ true
      each-queued = used-member queue_limit no_queued t.queue t.queued (queued_fine t.n (room_at t)) is_blank_queued s.queue queued queue

      wires : places wire_limit no_wire t.wires t.count (wire_fine t.n (room_at t)) is_blank_wire ≡ true
      wires = search (and_left, and_right) depth 25 fits 4000

      each-wire : (w : Wire) → Mem w (messages_of t) → wire_fine t.n (room_at t) w ≡ true
      each-wire = used-member wire_limit no_wire t.wires t.count (wire_fine t.n (room_at t)) is_blank_wire s.wires count wires

      named : names_fine t ≡ true
      named = search (and_left, and_right) depth 25 fits 4000

  pub test_of : WellFormed t → well_formed t ≡ true
  unfolding well_formed sizes_fit rooms_fine queue_fine wires_fine names_fine places
  test_of f =
      (le-leb 1 t.n f.some also le-leb t.n room_limit f.low also le-leb t.queued queue_limit f.queued also le-leb t.count wire_limit f.count)
      also all_of room_limit (λ c. if ltb c t.n then room_fine t.n c (room_at t c) else is_blank_room (room_at t c)) room
      also places-test queue_limit no_queued t.queue t.queued (queued_fine t.n (room_at t)) is_blank_queued s.queue f.queued
      (λ q m. queued-test t.n (room_at t) q (f.formed.queued q m)) f.queue-blank queued-blank
      also places-test wire_limit no_wire t.wires t.count (wire_fine t.n (room_at t)) is_blank_wire s.wires f.count
      (λ w m. message-test t.n (room_at t) w (f.formed.message w m)) f.wires-blank wire-blank
      also eq-eqb (tokens t.n (room_at t) (messages_of t)) 1 f.formed.token
      also all_of t.n (λ c. eqb (names (queue_of t) (messages_of t) c) (one (ltb 0 (due (room_at t c))))) (λ c l. eq-eqb _ _ (f.formed.named c l))
    where
      room : (c : ℕ) → c < room_limit → (if ltb c t.n then room_fine t.n c (room_at t c) else is_blank_room (room_at t c)) ≡ true
      room c h =
          by-test (λ (b : Bool). b ≡ true) (ltb c t.n) (room_fine t.n c (room_at t c)) (is_blank_room (room_at t c))
          (λ e. room-test t.n c (room_at t c) (f.formed.room c (ltb-true _ _ e)))
          (λ e. room-blank (room_at t c) (f.rooms-blank c (ltb-false _ _ e) h))
