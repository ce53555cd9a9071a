-- The contract of a run decides its result: two results that it allows are one.
use Rattle.std.proofs.Common.{◌≡◌, ℕ, List, Result}
use Rattle.table.specs.declared.Table.{Table}
use Rattle.table.specs.declared.refusal.Refusal.{Refusal}
use Rattle.table.specs.Tables.{answer_in, blank_table}
use Rattle.table.proofs.Once.{answered-once}
use Rattle.rules.specs.declared.Event.{Event}
use Rattle.run.specs.Runs.{Ran, ran-decided}

pub ran-once : (n : ℕ) (events : List Event) (r s : Result Table Refusal) → Ran n events (answer_in blank_table r)
    → Ran n events (answer_in blank_table s) → r ≡ s
ran-once n events r s p q = answered-once blank_table r s (ran-decided n events _ _ p q)
