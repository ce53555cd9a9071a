use Rattle.std.proofs.Common.{rules, arith}
use Rattle.std.proofs.lemmas.List.{take_all}
use Rattle.std.proofs.lemmas.Iterator.Consumers.{fold_from_yields_List, YieldsList-from_first}
use Rattle.rules.specs.Step.{step_of}
use Rattle.run.specs.Runs.{events_of}
use Rattle.run.proofs.Events.{runs-fold}
use Rattle.run.proofs.made.Goals as goal

pub returns : goal.returns
returns c =
    let xs = events_of c.args.events.now in
    runs-fold c.args.t xs _
    (fold_from_yields_List _ (λ t e. (step_of t e).table) _ _ c.fold.ensures.ran
    (YieldsList-from_first (λ e. e) (λ s. events_of s.0.now) xs (grind (arith, take_all))) (λ t e u q k. search rules))
