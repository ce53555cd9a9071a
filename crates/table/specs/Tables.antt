-- "The table": its rooms, its queue and its messages, and the fresh table.
use Rattle.std.specs.Prelude.{ℕ, true, ◌&&◌, List, get_or, set, replicate, take, leb, if◌then◌else◌, Result, Ok, Err}
use Rattle.modes.specs.Codes.{none}
use Rattle.room.specs.declared.Room.{Room}
use Rattle.room.specs.Limits.{room_limit}
use Rattle.room.specs.Record.{no_room, blank_room, with_token}
use Rattle.table.specs.declared.Table.{Table}
use Rattle.table.specs.declared.Wire.{Wire}
use Rattle.table.specs.declared.Queued.{Queued}
use Rattle.table.specs.declared.refusal.Refusal.{Refusal}
use Rattle.table.specs.declared.Message.TheVariants as msg
use Rattle.table.specs.Numbers.{DONE, ROOM, number_of}
use Rattle.table.specs.Limits.{queue_limit, wire_limit}

-- the one filler of a wire and of a queue place that is not in use
abbrev pub no_wire : Wire
no_wire = record { «from» = 0; to = 0; message = msg.Nothing }

abbrev pub no_queued : Queued
no_queued = record { room = 0; mode = none }

abbrev pub room_at : Table → ℕ → Room
room_at t c = get_or t.rooms c no_room

abbrev pub queued_at : Table → ℕ → Queued
queued_at t i = get_or t.queue i no_queued

abbrev pub wire_at : Table → ℕ → Wire
wire_at t i = get_or t.wires i no_wire

-- "The table has one queue, which travels with the token, of rooms with their wanted modes"
abbrev pub queue_of : Table → List Queued
queue_of t = take t.queued t.queue

-- "Messages are kept in the order of sending."
abbrev pub messages_of : Table → List Wire
messages_of t = take t.count t.wires

-- a table of n rooms with these records, and nothing queued or under way
abbrev pub empty_table : ℕ → List Room → Table
empty_table n rooms =
    record { n = n; rooms = rooms; queue = replicate queue_limit no_queued; queued = 0; wires = replicate wire_limit no_wire; count = 0 }

-- "Fresh table: room 0 has the token, all toward 0, the rest none or zero."
unfoldable pub fresh_table : ℕ → Table
fresh_table n = empty_table n (set (replicate room_limit blank_room) 0 (with_token blank_room true 0))

-- a table of no rooms, with nothing in it: what a refused fresh hands back. It is not well formed.
unfoldable pub blank_table : Table
blank_table = empty_table 0 (replicate room_limit blank_room)

-- a number given back, and the table after it
pub record Answer : Type 0 where
  pub «number» : ℕ
  pub table : Table

abbrev pub answer : ℕ → Table → Answer
answer k t = record { «number» = k; table = t }

-- what a result says of the table t that it was tried on: "All but 0 return the table as it came."
abbrev pub answer_in : Table → Result Table Refusal → Answer
answer_in t (Ok u) = answer DONE u
answer_in t (Err refusal) = answer (number_of refusal) t

-- "3 ROOM: .. a fresh table asked with n = 0 or above 16"
unfoldable pub fresh_of : ℕ → Answer
fresh_of n = if leb 1 n && leb n room_limit then answer DONE (fresh_table n) else answer ROOM blank_table
