use native.Mathlib.Omega.{arith}
use Rattle.table.proofs.Laws.{fresh-done, fresh-low, fresh-high}
use Rattle.table.proofs.fresh.Goals as goal

pub returns-in-1-to-16 : goal.returns-in-1-to-16
returns-in-1-to-16 c = fresh-done _ _ c.blank-rooms.ensures _ (omega arith) (omega arith) c.laid.ensures

pub returns-in_default : goal.returns-in_default
returns-in_default c = fresh-low _ (omega arith)

pub returns-in_default-2 : goal.returns-in_default-2
returns-in_default-2 c = fresh-high _ (omega arith)
