use borrow.Author.Rules.{rules}
use native.Mathlib.Omega.{arith}
use Rattle.std.proofs.Common.{◌≡◌, refl, sym, ◌∙◌, ap, length, drop, ◌&&◌}
use Rattle.base.specs.Sums.{one}
use Rattle.table.specs.Limits.{queue_limit, wire_limit}
use Rattle.std.specs.List.{list_all}
use Rattle.std.proofs.lemmas.Grind.{common_steps}
use Rattle.table.specs.Formed.{is_blank_queued, is_blank_wire}
use Rattle.formed.proofs.Counted.{counted-raised, counted-kept}
use Rattle.formed.proofs.Same.{names-nobody}
use Rattle.formed.proofs.Tallied.{few-queued, few-wires, no-sizes, no-rooms, queue-not, times-first, tokens-first, message-not, message-so, tallied}
use Rattle.formed.proofs.tally_of.Goals.{in-Some, in_default}
use Rattle.formed.proofs.tally_of.Goals as goal

pub returns-then-not-sizes_fit : goal.returns-then-not-sizes_fit
returns-then-not-sizes_fit c = no-sizes _ (sym c.sizes_fit.ensures ∙ c.if-not-sizes_fit.true)

pub split_at-requires : goal.split_at-requires
split_at-requires c =
    let long : length c.args.t.now.queue ≡ queue_limit = search rules in
    omega (arith, few-queued c.args.t.now (sym c.sizes_fit.ensures ∙ c.if-not-sizes_fit.false))

pub split_at-requires-2 : goal.split_at-requires-2
split_at-requires-2 c =
    let long : length c.args.t.now.wires ≡ wire_limit = search rules in
    omega (arith, few-wires c.args.t.now (sym c.sizes_fit.ensures ∙ c.if-not-sizes_fit.false))

pub returns-in_err-seen : goal.returns-in_err-seen
returns-in_err-seen c = search (rules, no-rooms)

pub returns-in_err-times : goal.returns-in_err-times
returns-in_err-times c =
    let sizes = sym c.sizes_fit.ensures ∙ c.if-not-sizes_fit.false in
    let long : length c.args.t.now.queue ≡ queue_limit = search rules in
    let p = queue-not c.args.t.now sizes _ c.in_ok-seen.ensures long _ c.split_at.ensures.front c.in_err-times.ensures in
    search rules

pub loop-w-init : goal.loop-w-init
loop-w-init c =
    let t = c.args.t.now in
    let sizes = sym c.sizes_fit.ensures ∙ c.if-not-sizes_fit.false in
    let long : length t.queue ≡ queue_limit = search rules in
    record {
      fine = refl;
      times = times-first t sizes _ c.in_ok-seen.ensures long _ c.split_at.ensures.front _ c.in_ok-times.ensures;
      tokens = tokens-first t sizes _ c.in_ok-seen.ensures long _ c.split_at.ensures.front _ c.in_ok-times.ensures;
    }

pub returns-then-not-wire_fine : goal.returns-then-not-wire_fine
returns-then-not-wire_fine c =
    let t = c.args.t.now in
    let sizes = sym c.sizes_fit.ensures ∙ c.if-not-sizes_fit.false in
    let long : length t.wires ≡ wire_limit = search rules in
    message-not t sizes _ c.in_ok-seen.ensures _ c.split_at-2.ensures.front c.loop-w.w-index (omega arith) _ c.wire_fine.ensures long c.if-not-wire_fine.true

pub bounds-times-from : goal.bounds-times-from
bounds-times-from c =
    let sizes = sym c.sizes_fit.ensures ∙ c.if-not-sizes_fit.false in
    let turn =
    message-so c.args.t.now sizes _ c.in_ok-seen.ensures _ c.split_at-2.ensures.front c.loop-w.w-index (omega arith) _
    c.wire_fine.ensures c.if-not-wire_fine.false _ c.carried_by-carried.ensures in
    rw c.from.ensures (turn.low _ c.in-Some.is)

pub bounds-times-from-in-Some : goal.bounds-times-from-in-Some
bounds-times-from-in-Some c =
    let sizes = sym c.sizes_fit.ensures ∙ c.if-not-sizes_fit.false in
    let turn =
    message-so c.args.t.now sizes _ c.in_ok-seen.ensures _ c.split_at-2.ensures.front c.loop-w.w-index (omega arith) _
    c.wire_fine.ensures c.if-not-wire_fine.false _ c.carried_by-carried.ensures in
    rw c.from.ensures (turn.low _ c.in-Some.is)

pub overflow_add-times : goal.overflow_add-times
overflow_add-times c =
    let sizes = sym c.sizes_fit.ensures ∙ c.if-not-sizes_fit.false in
    let turn =
    message-so c.args.t.now sizes _ c.in_ok-seen.ensures _ c.split_at-2.ensures.front c.loop-w.w-index (omega arith) _
    c.wire_fine.ensures c.if-not-wire_fine.false _ c.carried_by-carried.ensures in
    let room = c.in-Some.room in
    rw c.from.ensures (omega (arith, c.loop-w.invariant.times.at room (turn.low _ c.in-Some.is), turn.few-names room))

pub overflow_add-tokens : goal.overflow_add-tokens
overflow_add-tokens c =
    let sizes = sym c.sizes_fit.ensures ∙ c.if-not-sizes_fit.false in
    let turn =
    message-so c.args.t.now sizes _ c.in_ok-seen.ensures _ c.split_at-2.ensures.front c.loop-w.w-index (omega arith) _
    c.wire_fine.ensures c.if-not-wire_fine.false _ c.carried_by-carried.ensures in
    omega (arith, turn.tokens, turn.few-tokens)

pub loop-w-preserved : goal.loop-w-preserved
loop-w-preserved c =
    let k = c.loop-w in
    let sizes = sym c.sizes_fit.ensures ∙ c.if-not-sizes_fit.false in
    let turn =
    message-so c.args.t.now sizes _ c.in_ok-seen.ensures _ c.split_at-2.ensures.front c.loop-w.w-index (omega arith) _
    c.wire_fine.ensures c.if-not-wire_fine.false _ c.carried_by-carried.ensures in
    record {
      fine = turn.fine k.invariant.fine;
      times = elim c.match-carried.branch [
        | in-Some w ↦
            counted-raised _ _ _ k.invariant.times _ w.in-Some.room
            (turn.low _ w.in-Some.is)
            (λ j l. rw w.in-Some.is at (turn.names j))
            (rw w.from.ensures at w.times-is)
        | in_default w ↦
            counted-kept _ _ _ k.invariant.times _
            (λ j l. omega (arith, turn.names j, ap one (names-nobody _ w.in_default.not-Some j)))
            w.times-is
      ];
      tokens = omega (arith, k.invariant.tokens, turn.tokens);
    }

pub returns : goal.returns
returns c =
    let t = c.args.t.now in
    let k = c.loop-w in
    let sizes = sym c.sizes_fit.ensures ∙ c.if-not-sizes_fit.false in
    let queue : length t.queue ≡ queue_limit = search rules in
    let wires : length t.wires ≡ wire_limit = search rules in
    let rest : c.if-are_blank.blank
    ≡ (list_all is_blank_queued (drop t.queued t.queue) && list_all is_blank_wire (drop t.count t.wires)) = grind (arith, common_steps) in
    c.then_some.ensures
    ∙ tallied t sizes _ c.in_ok-seen.ensures queue _ c.split_at.ensures.front _ c.in_ok-times.ensures wires k.w-index (rw c.split_at-2.ensures.front at c.loop-w-test.false)
    k.invariant.fine _ k.invariant.times _ k.invariant.tokens _ rest
