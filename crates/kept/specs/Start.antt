-- From a well formed table to the moment at which a room begins to act, and the oldest message of a wire taken off it.
use Rattle.std.specs.Prelude.{◌≡◌, refl, List, ℕ, ◌<◌, length, get_or}
use Rattle.std.proofs.Common.{append-nil, arith}
use Rattle.base.specs.Sums.{one}
use Rattle.base.specs.Lists.{remove, mem-at}
use Rattle.room.specs.declared.Room.{Room}
use Rattle.std.specs.Prelude.{Some}
use Rattle.table.specs.Oldest.{found_at}
use Rattle.table.specs.declared.Table.{Table}
use Rattle.table.specs.declared.Wire.{Wire}
use Rattle.table.specs.declared.Queued.{Queued}
use Rattle.table.specs.declared.Message.{Message}
use Rattle.table.specs.Tables.{no_wire, room_at, queue_of, messages_of}
use Rattle.table.specs.Oldest.{oldest_of}
use Rattle.table.specs.Formed.{is_named_in, is_token}
use Rattle.rules.specs.Work.{work_at}
use Rattle.facts.specs.Shapes.{Shaped}
use Rattle.facts.specs.Moments.{Formed}
use Rattle.facts.specs.Whole.{WellFormed}
use Rattle.facts.specs.Search.{oldest-low, oldest-there}
use Rattle.kept.specs.Changed.{changed, changed-is}
use Rattle.kept.specs.Moment.{NoOwnRequest, Right, Moment, Sound, empty}
use Rattle.kept.specs.Hand.{take-message}
use Rattle.kept.specs.Acts.{At, Whole, now}

-- Formed with nothing in hand is sound, and back.
module _ (n : ℕ) (rooms : ℕ → Room) (queue : List Queued) (messages : List Wire) where
  pub sound-of : Formed n rooms queue messages → NoOwnRequest rooms messages → Sound n rooms queue messages
  sound-of f u =
      record {
        room = f.room;
        queued = f.queued;
        right = λ w m. record { facts = f.message w m; unowned = u w m };
        token = omega (arith, f.token);
        named = λ c l. omega (arith, f.named c l);
      }

  pub formed-of : Sound n rooms queue messages → Formed n rooms queue messages
  formed-of s =
      record {
        room = s.room;
        queued = s.queued;
        message = λ w m. (s.right w m).facts;
        token = omega (arith, s.token);
        named = λ c l. omega (arith, s.named c l);
      }

module _ (t : Table) (s : Shaped t) (f : WellFormed t) (u : NoOwnRequest (room_at t) (messages_of t)) where
  pub sound : Sound t.n (room_at t) (queue_of t) (messages_of t)
  sound = sound-of t.n (room_at t) (queue_of t) (messages_of t) f.formed u

  -- room x before it has done anything
  pub same-rooms : (x : ℕ) → changed (room_at t) x (room_at t x) ≡ room_at t
  same-rooms x = changed-is (room_at t) x (room_at t x) (room_at t) refl (λ c e. refl)

  begun : (x : ℕ) (kept : List Wire) (hand : ℕ → ℕ) (loose : ℕ) → x < t.n → Moment t.n (room_at t) (queue_of t) kept hand loose
      → At t.n (room_at t) kept (work_at t x) hand loose
  begun x kept hand loose low m =
      record {
        small = f.low;
        low = low;
        long = s.entries x (omega (arith, f.low));
        moment = rw (same-rooms x, append-nil kept) m;
      }

  pub start : (x : ℕ) → x < t.n → Whole t.n (room_at t) (messages_of t) (work_at t x)
  start x low = begun x (messages_of t) empty 0 low sound

  -- the oldest message from a to b is right, and at its taking off the rest is a moment with what it carries in hand
  pub record Taken (a b k : ℕ) (m : Message) : Type 0 where
    pub right : Right t.n (now (room_at t) (work_at t b)) (record { «from» = a; to = b; message = m })
    pub at : At t.n (room_at t) (remove k (messages_of t)) (work_at t b) (λ c. one (is_named_in c b m)) (one (is_token m))

  pub take-oldest : (a b k : ℕ) (m : Message) → oldest_of t a b ≡ Some (found_at k m) → Taken a b k m
  take-oldest a b k m h =
      record {
        right = rw (same-rooms b) right;
        at = begun b (remove k (messages_of t)) (λ c. one (is_named_in c b m)) (one (is_token m)) right.facts.to_low rest;
      }
    where
      low : k < length (messages_of t)
      low = oldest-low t a b k m h

      there : get_or (messages_of t) k no_wire ≡ record { «from» = a; to = b; message = m }
      there = oldest-there t a b k m h

      right : Right t.n (room_at t) (record { «from» = a; to = b; message = m })
      right = rw there at (sound.right (get_or (messages_of t) k no_wire) (mem-at (messages_of t) k no_wire low))

      rest : Moment t.n (room_at t) (queue_of t) (remove k (messages_of t)) (λ c. one (is_named_in c b m)) (one (is_token m))
      rest = rw there at (take-message t.n (room_at t) (queue_of t) (messages_of t) k no_wire low sound)
