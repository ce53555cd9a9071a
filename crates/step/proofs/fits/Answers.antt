use Rattle.std.proofs.Common.{refl, ◌∙◌, sym, ap, arith, length}
use Rattle.step.proofs.Outcomes.{ending-worn, ending-full, ending-done}
use Rattle.step.proofs.fits.Goals as goal

pub returns-then-worn : goal.returns-then-worn
returns-then-worn c = rw (← c.p.view_is) (ending-worn _ _ refl (sym c.worn.ensures ∙ c.if-worn.true))

pub returns-then-sent-kept : goal.returns-then-sent-kept
returns-then-sent-kept c =
    rw (← c.p.view_is)
    (ending-full _ _ refl (sym c.worn.ensures ∙ c.if-worn.false) (omega (arith, c.left-kept.ensures, ap length c.sent.ensures, c.if-sent-kept.true)))

pub returns : goal.returns
returns c =
    rw (← c.p.view_is)
    (ending-done _ _ refl (sym c.worn.ensures ∙ c.if-worn.false) (omega (arith, c.left-kept.ensures, ap length c.sent.ensures, c.if-sent-kept.false)))
