use native.Mathlib.Omega.{arith}
use mathlib.Core.Bool.{true}
use Rattle.plan.proofs.Numbers.{refused-is, deliver-to, deliver-empty, deliver-is}
use borrow.Author.Rules.{rules}
use Rattle.plan.proofs.deliver.Goals as goal

pub returns-then-e-t : goal.returns-then-e-t
returns-then-e-t c = refused-is _ _ true 3 (λ q. omega arith) (search deliver-to)

pub returns-in_default : goal.returns-in_default
returns-in_default c = refused-is _ _ true 8 (λ q. omega arith) (deliver-empty _ _ (search rules) (omega arith) _ c.oldest.ensures c.in_default.is)

pub returns : goal.returns
returns c =
    deliver-is _ _ c.requires c.if-e-t.false _ c.oldest.ensures _ _ c.in-Some.is
    _ c.start.ensures _ c.receive-done.ensures
