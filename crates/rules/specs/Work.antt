-- What one room does in a step. Every event changes one room's record, the queue where that room has the token, and what is sent.
use Rattle.std.specs.Prelude.{ℕ, Bool, false, ◌||◌, List, [], ◌∷◌, ◌++◌}
use Rattle.std.specs.Prelude.{Option, Some, None}
use Rattle.room.specs.declared.Room.{Room}
use Rattle.room.specs.declared.Reduce.{Reduce}
use Rattle.room.specs.declared.Changed.{Changed}
use Rattle.table.specs.declared.Table.{Table}
use Rattle.table.specs.declared.Wire.{Wire}
use Rattle.table.specs.declared.Queued.{Queued}
use Rattle.table.specs.declared.Message.{Message}
use Rattle.table.specs.declared.Message.TheVariants as msg
use Rattle.table.specs.Tables.{room_at, queue_of}

pub record Work : Type 0 where
  -- the room that acts, and its record
  pub me : ℕ
  pub room : Room
  -- the queue, which travels with the token
  pub queue : List Queued
  -- what it sends, in the order of sending
  pub sent : List Wire
  -- whether it needed a link number above the last
  pub worn : Bool

-- room x before it has done anything
abbrev pub work_at : Table → ℕ → Work
work_at t x = record { me = x; room = room_at t x; queue = queue_of t; sent = []; worn = false }

abbrev pub with_room : Work → Room → Work
with_room w r = record { me = w.me; room = r; queue = w.queue; sent = w.sent; worn = w.worn }

abbrev pub with_queue : Work → List Queued → Work
with_queue w q = record { me = w.me; room = w.room; queue = q; sent = w.sent; worn = w.worn }

-- whether a link number above the last was needed, now or before
abbrev pub with_worn : Work → Bool → Work
with_worn w b = record { me = w.me; room = w.room; queue = w.queue; sent = w.sent; worn = w.worn || b }

-- a message to room y, after those sent already
unfoldable pub send : Work → ℕ → Message → Work
send w y m =
    record {
      me = w.me;
      room = w.room;
      queue = w.queue;
      sent = w.sent ++ (record { «from» = w.me; to = y; message = m } ∷ []);
      worn = w.worn;
    }

-- room y joins the end of the queue
unfoldable pub join : Work → ℕ → ℕ → Work
join w y m = with_queue w (w.queue ++ (record { room = y; mode = m } ∷ []))

-- what a changed record sends, as a message
unfoldable pub send_out : Work → Option Reduce → Work
send_out w None = w
send_out w (Some reduce) = send w reduce.to (msg.Reduce reduce.link reduce.mode)

-- a record that has changed, and what it sends
abbrev pub change : Work → Changed → Work
change w c = send_out (with_room w c.room) c.send
