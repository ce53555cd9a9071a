-- What owning a table tells of its value: the arrays are as long as their types say.
use mathlib.Core.Path.{◌≡◌}
use mathlib.Core.List.{List}
use lib.ListN.{length}
use mir.Val.{Val}
use denote.Laws.{Is}
use Rattle.room.specs.Limits.{room_limit}
use Rattle.table.specs.declared.Table.{Table}
use Rattle.table.specs.Limits.{queue_limit, wire_limit}
use native.Mathlib.Omega.{arith}
use Rattle.table.specs.declared.refusal.Refusal.{Refusal}
use Rattle.table.specs.declared.refusal.Refusal.TheVariants as refusal
use Rattle.table.specs.Numbers.{DONE, number_of}
use Rattle.table.specs.contracts.Table.{the_row}

pub rooms-long : (t : Table) {vs : List Val} → Is the_row t vs → length t.rooms ≡ room_limit
rooms-long t g = g.1.1.1.0.1.0.1

pub queue_long : (t : Table) {vs : List Val} → Is the_row t vs → length t.queue ≡ queue_limit
queue_long t g = g.1.1.1.1.0.1.0.1

pub wires-long : (t : Table) {vs : List Val} → Is the_row t vs → length t.wires ≡ wire_limit
wires-long t g = g.1.1.1.1.1.1.0.1.0.1

-- a refusal's number is not that of a step that is made
pub number-some : (why : Refusal) → number_of why ≡ DONE → ⊥
number-some refusal.Table e = absurd (omega arith)
number-some refusal.Event e = absurd (omega arith)
number-some refusal.Room e = absurd (omega arith)
number-some refusal.Mode e = absurd (omega arith)
number-some refusal.Waiting e = absurd (omega arith)
number-some refusal.Held e = absurd (omega arith)
number-some refusal.NotHeld e = absurd (omega arith)
number-some refusal.Empty e = absurd (omega arith)
number-some refusal.Busy e = absurd (omega arith)
number-some refusal.Worn e = absurd (omega arith)
number-some refusal.Full e = absurd (omega arith)
