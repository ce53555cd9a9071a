-- `n 3`: a fresh table, or a refusal that leaves the table that there is.
use Rattle.std.proofs.Common.{◌≡◌, ℕ, Result, Ok, Err, sym}
use borrow.Author.Tests.{ne_eqb}
use Rattle.table.specs.declared.Table.{Table}
use Rattle.table.specs.declared.refusal.Refusal.{Refusal}
use Rattle.table.specs.Numbers.{number_of}
use Rattle.table.specs.Tables.{blank_table, fresh_of, answer_in}
use Rattle.table.proofs.Known.{number-some}
use Rattle.session.specs.Turns.{begun}

pub fresh_begun : (t : Table) (n : ℕ) (r : Result Table Refusal) → answer_in blank_table r ≡ fresh_of n → answer_in t r ≡ begun t (fresh_of n)
unfolding begun
fresh_begun t n (Ok u) e = rw (← e)
fresh_begun t n (Err why) e = rw (← e) (sym (simp (ne_eqb (number_of why) 0 (number-some why))))
