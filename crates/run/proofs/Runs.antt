-- What a run gives back, for a fresh table that is refused and for one that is not.
use mathlib.Core.Path.{◌≡◌, refl, sym, ◌∙◌, ap}
use mathlib.Core.List.{List}
use Prim.Native.Nat.{ℕ, ◌≤◌}
use borrow.Author.Tests.{le-leb, ne_eqb}
use Rattle.std.specs.Prelude.{Err}
use Rattle.room.specs.Limits.{room_limit}
use Rattle.table.specs.declared.Table.{Table}
use Rattle.table.specs.declared.refusal.Refusal.{Refusal}
use Rattle.table.specs.Numbers.{DONE, number_of}
use Rattle.table.specs.Tables.{Answer, answer, answer_in, blank_table, fresh_table, fresh_of}
use Rattle.table.proofs.Known.{number-some}
use Rattle.rules.specs.declared.Event.{Event}
use Rattle.rules.specs.Step.{runs}
use Rattle.safe.specs.Reached.{Reached}
use Rattle.safe.proofs.Always.{demand3, reached-formed, reached-few, delivery-accepted, hand-back-accepted}
use Rattle.run.specs.Runs.{continued, ran_of, Holds, Ran}

-- a fresh table of 1 to 16 rooms is not refused
fresh-is : (n : ℕ) → 1 ≤ n → n ≤ room_limit → fresh_of n ≡ answer DONE (fresh_table n)
unfolding fresh_of
fresh-is n some most = rw (le-leb 1 n some, le-leb n room_limit most)

-- what holds of the table after events
run_holds : (n : ℕ) (events : List Event) → 1 ≤ n → n ≤ room_limit → Holds n (runs (fresh_table n) events)
run_holds n events some most =
    let r : Reached n (runs (fresh_table n) events) = record { some = some; most = most; events = events; leads = refl } in
    record {
      reached = r;
      demand3 = demand3 n _ r;
      formed = reached-formed n _ r;
      few = reached-few n _ r;
      delivers = delivery-accepted n _ r;
      hands-back = hand-back-accepted n _ r;
    }

module _ (n : ℕ) (events : List Event) where
  pub run-refused : (why : Refusal) → answer_in blank_table (Err why) ≡ fresh_of n → Ran n events (answer_in blank_table (Err why))
  unfolding ran_of continued
  run-refused why e =
      record {
        is = rw (← e) (sym (simp (ne_eqb (number_of why) DONE (number-some why))));
        holds = λ some most. absurd (number-some why (ap (λ (a : Answer). a.«number») (e ∙ fresh-is n some most)));
      }

  pub run-made : (t : Table) → answer DONE t ≡ fresh_of n → (last : Table) → last ≡ runs t events → Ran n events (answer DONE last)
  unfolding ran_of continued
  run-made t e last q =
      record {
        is = rw (← e, q) refl;
        holds = λ some most. rw (q, ap (λ (a : Answer). a.table) (e ∙ fresh-is n some most)) (run_holds n events some most);
      }
