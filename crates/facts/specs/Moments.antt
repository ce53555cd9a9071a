-- What is right at every moment, inside a step too: the rooms in use, the queue, the messages, the token and the names.
use Rattle.std.specs.Prelude.{◌≡◌, ◌≢◌, true, List, ℕ, ◌≤◌, ◌<◌, ltb}
use Rattle.std.proofs.Math.Path.{refl}
use borrow.Author.Tests.{ltb-true, leb-true, eqb-true, eqb-false, not-true, lt-ltb, le-leb, eq-eqb, ne_eqb}
use Rattle.base.specs.Tests.{and_left, and_right, ◌also◌}
use Rattle.base.specs.Sums.{one}
use Rattle.base.specs.Lists.{Mem}
use Rattle.modes.specs.Codes.{IR, W}
use Rattle.room.specs.declared.Room.{Room}
use Rattle.table.specs.declared.Wire.{Wire}
use Rattle.table.specs.declared.Queued.{Queued}
use Rattle.table.specs.Formed.{due, queued_fine, message_fine, names_rightly, wire_fine, tokens, names}
use Rattle.facts.specs.Rooms.{RoomFacts}

-- a place of the queue that is in use
pub record QueuedFacts (n : ℕ) (rooms : ℕ → Room) (q : Queued) : Type 0 where
  -- "room numbers in range"
  pub low : q.room < n
  -- a mode that is not none
  pub some : IR ≤ q.mode
  pub code : q.mode ≤ W
  -- it names a waiting room, with its mode
  pub waits : due (rooms q.room) ≡ q.mode

-- a message that is in use
pub record MessageFacts (n : ℕ) (rooms : ℕ → Room) (w : Wire) : Type 0 where
  -- "room numbers in range"
  pub from_low : w.«from» < n
  pub to_low : w.to < n
  -- "a sender is never the receiver"
  pub apart : w.«from» ≢ w.to
  -- its modes are those that such a message may have
  pub fine : message_fine n w.message ≡ true
  -- it names a waiting room, with its mode; no GRANT goes to the room with the token
  pub rightly : names_rightly rooms w.to w.message ≡ true

-- It has no bound on the lengths of the queue and of the messages, and says nothing of unused places.
pub record Formed (n : ℕ) (rooms : ℕ → Room) (queue : List Queued) (messages : List Wire) : Type 0 where
  pub room : (c : ℕ) → c < n → RoomFacts n c (rooms c)
  pub queued : (q : Queued) → Mem q queue → QueuedFacts n rooms q
  pub message : (w : Wire) → Mem w messages → MessageFacts n rooms w
  -- "exactly one token, with a room or in a TOKEN message"
  pub token : tokens n rooms messages ≡ 1
  -- "each waiting room without an upgrade is named .. by exactly one of: queue, a REQUEST it began, a GRANT or TOKEN to it"
  pub named : (c : ℕ) → c < n → names queue messages c ≡ one (ltb 0 (due (rooms c)))

module _ (n : ℕ) (rooms : ℕ → Room) where
  pub queued-facts : (q : Queued) → queued_fine n rooms q ≡ true → QueuedFacts n rooms q
  unfolding queued_fine
  queued-facts q h =
      record {
        low = ltb-true _ _ (search (and_left, and_right) depth 25 fits 4000);
        some = leb-true _ _ (search (and_left, and_right) depth 25 fits 4000);
        code = leb-true _ _ (search (and_left, and_right) depth 25 fits 4000);
        waits = eqb-true _ _ (search (and_left, and_right) depth 25 fits 4000);
      }

  pub queued-test : (q : Queued) → QueuedFacts n rooms q → queued_fine n rooms q ≡ true
  unfolding queued_fine
  queued-test q f =
      lt-ltb q.room n f.low
      also (le-leb IR q.mode f.some also le-leb q.mode W f.code)
      also eq-eqb (due (rooms q.room)) q.mode f.waits

  pub message-facts : (w : Wire) → wire_fine n rooms w ≡ true → MessageFacts n rooms w
  unfolding wire_fine
  message-facts w h =
      record {
        from_low = ltb-true _ _ (search (and_left, and_right) depth 25 fits 4000);
        to_low = ltb-true _ _ (search (and_left, and_right) depth 25 fits 4000);
        apart = eqb-false _ _ (not-true _ (search (and_left, and_right) depth 25 fits 4000));
        fine = search (and_left, and_right) depth 25 fits 4000;
        rightly = search (and_left, and_right) depth 25 fits 4000;
      }

  pub message-test : (w : Wire) → MessageFacts n rooms w → wire_fine n rooms w ≡ true
  unfolding wire_fine
  message-test w f =
      lt-ltb w.«from» n f.from_low
      also lt-ltb w.to n f.to_low
      also rw (ne_eqb w.«from» w.to f.apart) refl
      also f.fine
      also f.rightly
