-- One line, and what comes of it.
use Rattle.std.specs.Prelude.{ℕ, ◌≡◌, Bool, List, Option, None, Some, length, ltb, eqb, if◌then◌else◌}
use Rattle.base.specs.Choice.{decided}
use Rattle.table.specs.declared.Table.{Table}
use Rattle.table.specs.Tables.{Answer}
use Rattle.table.specs.Numbers.{DONE, TABLE, EVENT}
use Rattle.table.specs.Tables.{answer, fresh_of}
use Rattle.rules.specs.declared.Event.{Event}
use Rattle.rules.specs.Step.{step_of}
use Rattle.step.specs.Writes.{step_as}
use Rattle.session.specs.declared.Turned.{Turned}
use Rattle.reading.specs.declared.Command.{Command}
use Rattle.reading.specs.declared.Command.TheVariants as command
use Rattle.reading.specs.Lines.{command_of}
use Rattle.writing.specs.Written.{line_limit, length_of, written_of}

-- `n 3`: a fresh table; "3 for a bad `n`", and the table that there is stays
unfoldable pub begun : Table → Answer → Answer
begun t a = if eqb a.«number» DONE then a else answer a.«number» t

-- "A line of another form, or a longer one, answers 2"; before the first accepted `n` 1, "a line of another form included"
unfoldable pub unread : Table → Answer
unread t = if eqb t.n 0 then answer TABLE t else answer EVENT t

-- what a line asks for, with the step that an event makes
unfoldable pub obeyed_by : (Event → Answer) → Table → Option Command → Answer
obeyed_by step t None = unread t
obeyed_by step t (Some (command.Fresh n)) = begun t (fresh_of n)
obeyed_by step t (Some (command.Make e)) = step e

abbrev pub obeyed : Table → Option Command → Answer
obeyed t c = obeyed_by (step_of t) t c

-- the number and the table that a line gives
unfoldable pub answer_to : Table → List ℕ → Answer
answer_to t line = obeyed t (command_of line)

-- the same where it is told whether the table is well formed
abbrev pub obeyed_as : Bool → Table → Option Command → Answer
obeyed_as formed t c = obeyed_by (step_as formed t) t c

unfoldable pub answer_as : Bool → Table → List ℕ → Answer
answer_as formed t line = obeyed_as formed t (command_of line)

-- the table after a line that has this answer, and the answer's length; where there may be no room for an answer nothing is done
unfoldable pub turned_of : Table → Answer → List ℕ → Turned
turned_of t a out =
    if ltb (length out) line_limit then record { table = t; length = 0 }
    else record { table = a.table; length = length_of a.«number» a.table out }

-- what a turn gives back and leaves in out, by the answer to its line
abbrev pub Leaves : Table → Answer → List ℕ → Turned → List ℕ → Type 0
Leaves t a out r after = (r ≡ turned_of t a out) × (after ≡ written_of a.«number» a.table out)

-- two turns with one answer are equal
pub turn-decided : (t : Table) (a : Answer) (out : List ℕ) (r s : Turned) (x y : List ℕ) → Leaves t a out r x → Leaves t a out s y → (r ≡ s) × (x ≡ y)
turn-decided t a out r s x y p q = (decided p.0 q.0, decided p.1 q.1)
