use native.Mathlib.Omega.{arith}
use mathlib.Core.Bool.{true, not, ◌&&◌}
use mathlib.Core.Path.{◌≡◌, ap}
use Rattle.std.proofs.lemmas.Result.{err_from_is_err_and}
use Rattle.rules.proofs.Codes.{kind-low}
use Rattle.table.specs.declared.refusal.Refusal.TheVariants as refusal
use Rattle.rules.specs.Events.{code_of}
use Rattle.plan.specs.Plans.{placed}
use Rattle.plan.proofs.Numbers.{refused-is, no_table, told-not, rooms-over, messages-over, no-event, no_room_lem, told_is}
use Rattle.plan.proofs.planned.Goals as goal

pub returns-then-not-formed : goal.returns-then-not-formed
returns-then-not-formed c =
    let a = c.args in
    refused-is a.t a.e (a.formed && placed a.t) 1 (λ q. omega arith)
    (no_table a.t a.e (a.formed && placed a.t) (told-not a.t a.e a.formed (ap not c.if-not-formed.true)))

pub returns-then-t-gt-MOST_ROOMS : goal.returns-then-t-gt-MOST_ROOMS
returns-then-t-gt-MOST_ROOMS c =
    let a = c.args in
    refused-is a.t a.e (a.formed && placed a.t) 1 (λ q. omega arith)
    (no_table a.t a.e (a.formed && placed a.t) (rooms-over a.t a.e a.formed (omega arith)))

pub returns-then-t-gt-WIRES : goal.returns-then-t-gt-WIRES
returns-then-t-gt-WIRES c =
    let a = c.args in
    refused-is a.t a.e (a.formed && placed a.t) 1 (λ q. omega arith)
    (no_table a.t a.e (a.formed && placed a.t) (messages-over a.t a.e a.formed (omega arith)))

pub returns-in_err-kind : goal.returns-in_err-kind
returns-in_err-kind c =
    let a = c.args in
    let p = err_from_is_err_and c.from_residual.result c.from_residual.ensures.1 in
    let event : c.in_err-kind.field-0.0 ≡ refusal.Event = grind arith in
    rw (p.1, p.2, event)
    (told_is a.t a.e a.formed (ap not c.if-not-formed.false) (omega arith) (omega arith) _
    (refused-is a.t a.e true 2 (λ q. omega arith) (no-event a.t a.e (grind arith))))

pub returns-then-e-t : goal.returns-then-e-t
returns-then-e-t c =
    let a = c.args in
    let kind : code_of c.in_ok-kind.kind ≡ a.e.kind = grind arith in
    told_is a.t a.e a.formed (ap not c.if-not-formed.false) (omega arith) (omega arith) _
    (refused-is a.t a.e true 3 (λ q. omega arith) (no_room_lem a.t a.e (omega (arith, kind-low c.in_ok-kind.kind, kind)) (omega arith)))

pub ask-requires : goal.ask-requires
ask-requires c = record { low = omega arith; room = omega arith; kind = grind arith }

pub upgrade-requires : goal.upgrade-requires
upgrade-requires c = record { low = omega arith; room = omega arith; kind = grind arith }

pub hand_back-requires : goal.hand_back-requires
hand_back-requires c = record { low = omega arith; room = omega arith; kind = grind arith }

pub deliver-requires : goal.deliver-requires
deliver-requires c = record { low = omega arith; room = omega arith; kind = grind arith }

pub returns-in-Ask : goal.returns-in-Ask
returns-in-Ask c = search told_is

pub returns-in-Upgrade : goal.returns-in-Upgrade
returns-in-Upgrade c = search told_is

pub returns-in-HandBack : goal.returns-in-HandBack
returns-in-HandBack c = search told_is

pub returns-in-Deliver : goal.returns-in-Deliver
returns-in-Deliver c = search told_is
