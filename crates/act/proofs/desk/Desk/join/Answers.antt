use Rattle.std.proofs.Common.{sym, ap}
use Rattle.rules.specs.Work.{Work}
use Rattle.act.proofs.Laid.{laid-joined}
use Rattle.act.proofs.desk.Desk.join.Goals as goal

pub invariant_of-self : goal.invariant_of-self
invariant_of-self c = laid-joined _ _ _ _ c.self.invariant c.args.self.now (ap (λ (w : Work). w.queue) (sym c.self.view_is)) (ap (λ (w : Work). w.sent) (sym c.self.view_is)) c.requires _
