use Rattle.std.proofs.Common.{ap}
use Rattle.table.specs.Tables.{blank_table}
use Rattle.punkurel.proofs.lines.Talk.start.Goals as goal

-- of no rooms
pub invariant_of-result : goal.invariant_of-result
unfolding blank_table
invariant_of-result c = record { known = ∣ record { lawful = λ some. absurd (some (ap (λ t. t.n) c.blank.ensures.value)) } ∣₁ }
