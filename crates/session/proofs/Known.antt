-- A fresh table and the blank one are tables that a session makes, and every line leads from such a table to one; whether it is well formed
-- shows in its number of rooms.
use mathlib.Core.Path.{◌≡◌, refl, sym, ◌∙◌, subst⁻¹}
use mathlib.Core.Bool.{Bool, false, not, ◌&&◌}
use mathlib.Core.List.{List}
use Prim.Native.Nat.{ℕ}
use lib.Dec.{ltb, leb, eqb}
use lib.ListN.{length}
use borrow.Author.Tests.{leb-true, eqb-true, eqb-false}
use Rattle.std.specs.Prelude.{Option, None, Some}
use Rattle.base.specs.Choice.{by-test, split}
use Rattle.base.specs.Tests.{and_left, and_right}
use Rattle.room.specs.Limits.{room_limit}
use Rattle.table.specs.declared.Table.{Table}
use Rattle.table.specs.Tables.{Answer}
use Rattle.table.specs.Numbers.{DONE, ROOM, TABLE, EVENT}
use Rattle.table.specs.Tables.{answer, fresh_table, blank_table, fresh_of}
use Rattle.table.specs.Formed.{sizes_fit, well_formed}
use Rattle.rules.specs.declared.Event.{Event}
use Rattle.rules.specs.Step.{step_of}
use Rattle.facts.specs.Accepted.{ill-formed-refused}
use Rattle.kept.specs.Fresh.{fresh-has}
use Rattle.kept.specs.Kept.{refused-stays, step-lawful}
use Rattle.reading.specs.declared.Command.{Command}
use Rattle.reading.specs.declared.Command.TheVariants as command
use Rattle.reading.specs.Lines.{command_of}
use Rattle.writing.specs.Written.{line_limit}
use Rattle.session.specs.declared.Turned.{Turned}
use Rattle.session.specs.Turns.{begun, unread, obeyed_by, obeyed, answer_to, turned_of}
use Rattle.session.specs.Known.{Known}

-- an answer with such a table
abbrev Gives : Answer → Type 0
Gives a = Known a.table

-- a fresh table is one, and so is what a refused fresh hands back
pub fresh-known : (n : ℕ) (a : Answer) → a ≡ fresh_of n → Known a.table
unfolding fresh_of fresh_table blank_table
fresh-known n a e =
    subst⁻¹ Gives e
    (by-test Gives (leb 1 n && leb n room_limit) (answer DONE (fresh_table n)) (answer ROOM blank_table)
    (λ h. record { lawful = λ z. fresh-has n (leb-true 1 n (and_left (leb 1 n) _ h)) (leb-true n room_limit (and_right (leb 1 n) _ h)) })
    (λ h. record { lawful = λ z. absurd (z refl) }))

module _ (t : Table) (k : Known t) where
  -- with rooms it is well formed, and without rooms no table is
  pub known-formed : (b : Bool) → b ≡ not (eqb t.n 0) → b ≡ well_formed t
  unfolding well_formed sizes_fit
  known-formed b e =
      e ∙ split (eqb t.n 0)
      (λ z. rw (eqb-true t.n 0 z) refl)
      (λ z. rw z (sym (k.lawful (eqb-false t.n 0 z)).0))

  -- a step on a table of no rooms is refused, and any other is kept lawful
  step-known : (e : Event) → Gives (step_of t e)
  step-known e =
      split (eqb t.n 0)
      (λ z. subst⁻¹ Known (refused-stays t e (ill-formed-refused t e (sym (known-formed false (rw z refl))))) k)
      (λ z. record { lawful = λ some. step-lawful t e (k.lawful (eqb-false t.n 0 z)) })

  begun-known : (a : Answer) → Gives a → Gives (begun t a)
  unfolding begun
  begun-known a g = by-test Gives (eqb a.«number» DONE) a (answer a.«number» t) (λ e. g) (λ e. k)

  unread-known : Gives (unread t)
  unfolding unread
  unread-known = by-test Gives (eqb t.n 0) (answer TABLE t) (answer EVENT t) (λ e. k) (λ e. k)

  obeyed-known : (c : Option Command) → Gives (obeyed t c)
  unfolding obeyed_by
  obeyed-known None = unread-known
  obeyed-known (Some (command.Fresh n)) = begun-known (fresh_of n) (fresh-known n (fresh_of n) refl)
  obeyed-known (Some (command.Make e)) = step-known e

  -- one turn leads to such a table again
  pub turned-known : (line out : List ℕ) (r : Turned) → r ≡ turned_of t (answer_to t line) out → Known r.table
  unfolding turned_of answer_to
  turned-known line out r e =
      rw e (by-test (λ (r : Turned). Known r.table) (ltb (length out) line_limit) _ _ (λ h. k) (λ h. obeyed-known (command_of line)))
