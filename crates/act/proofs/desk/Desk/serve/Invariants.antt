use Rattle.std.proofs.Common.{◌≡◌, length}
use Rattle.rules.specs.Rules.{serve_queue, serve}
use Rattle.act.proofs.desk.Desk.serve.Given as goal

abbrev pub invariant-loop-q : goal.invariant-loop-q
invariant-loop-q l = serve_queue l.self l.self.queue ≡ serve l.fn.self

abbrev pub decreases-loop-q : goal.decreases-loop-q
decreases-loop-q l = length l.self.queue
