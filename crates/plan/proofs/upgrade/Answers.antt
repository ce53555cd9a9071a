use native.Mathlib.Omega.{arith}
use mathlib.Core.Bool.{true}
use Rattle.plan.proofs.Numbers.{refused-is, upgrade-waiting, upgrade-other, upgrade-is}
use borrow.Author.Rules.{rules}
use Rattle.plan.proofs.upgrade.Goals as goal

pub returns-in-1-to-255 : goal.returns-in-1-to-255
returns-in-1-to-255 c = refused-is _ _ true 5 (λ q. omega arith) (upgrade-waiting _ _ (search rules) (λ q. omega arith))

pub returns-in_default : goal.returns-in_default
returns-in_default c = refused-is _ _ true 7 (λ q. omega arith) (upgrade-other _ _ (search rules) c.in-0.is (λ q. omega arith))

pub returns : goal.returns
returns c =
    upgrade-is _ _ c.requires c.in-0.is c.in-3.is
    _ c.start.ensures _ c.upgrade-done.ensures
