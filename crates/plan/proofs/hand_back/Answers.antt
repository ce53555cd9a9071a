use native.Mathlib.Omega.{arith}
use mathlib.Core.Bool.{true}
use Rattle.plan.proofs.Numbers.{refused-is, back-waiting, back-empty, back_is}
use borrow.Author.Rules.{rules}
use Rattle.plan.proofs.hand_back.Goals as goal

pub returns-in-1-to-255 : goal.returns-in-1-to-255
returns-in-1-to-255 c = refused-is _ _ true 5 (λ q. omega arith) (back-waiting _ _ (search rules) (λ q. omega arith))

pub returns-in-0-held : goal.returns-in-0-held
returns-in-0-held c = refused-is _ _ true 7 (λ q. omega arith) (back-empty _ _ (search rules) c.in-0.is c.in-0-held.is)

pub returns : goal.returns
returns c =
    back_is _ _ c.requires c.in-0.is (λ q. omega arith)
    _ c.start.ensures _ c.hand_back-done.ensures
