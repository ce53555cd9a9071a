use native.Mathlib.Omega.{arith}
use Rattle.std.proofs.Common.{◌<◌, refl, sym, ◌∙◌, get_or, take, take_all, length-take, eqb}
use Rattle.std.proofs.lemmas.List.{get_or-replicate}
use Rattle.std.proofs.lemmas.Grind.{common_steps}
use Rattle.std.proofs.lemmas.List.Folds.{list_all_at}
use Rattle.base.specs.Lists.{count-le, total-none, total-more}
use Rattle.base.specs.Sums.{one}
use Rattle.room.specs.Limits.{room_limit}
use Rattle.table.specs.declared.Queued.{Queued}
use Rattle.table.specs.Tables.{no_queued}
use Rattle.table.specs.Formed.{queued_fine}
use Rattle.formed.specs.Standings.{rooms_of}
use Rattle.formed.specs.Names.{named_in}
use Rattle.formed.proofs.Counted.{counted-raised, counted-is, places_naming}
use Rattle.formed.proofs.queue.look_over.Goals as goal

pub loop-q-init : goal.loop-q-init
loop-q-init c = record {
  fine = refl;
  times = record { long = refl; at = λ j l. get_or-replicate room_limit j 0 0 l ∙ sym (total-none (λ q. one (eqb q.room j)) c.args.queue.now) };
}

pub returns-then-not-place_fine : goal.returns-then-not-place_fine
unfolding named_in
returns-then-not-place_fine c =
    let s = c.args in
    let st = s.standings.now in
    let failed = sym c.place_fine.ensures.fine ∙ c.if-not-place_fine.true in
    rw (list_all_at (queued_fine st.n (rooms_of st.rooms)) s.queue.now c.loop-q.q-index no_queued (omega arith) failed)

pub overflow_add-times : goal.overflow_add-times
overflow_add-times c =
    let s = c.args in
    let k = c.loop-q in
    let at = (get_or s.queue.now k.q-index no_queued).room in
    let low : at < room_limit = c.place_fine.ensures.low c.if-not-place_fine.false in
    let so-far = take k.q-index s.queue.now in
    rw c.from.ensures
    (omega (arith, k.invariant.times.at at low, count-le (λ (q : Queued). eqb q.room at) so-far, length-take k.q-index s.queue.now))

pub loop-q-preserved : goal.loop-q-preserved
loop-q-preserved c =
    let s = c.args in
    let k = c.loop-q in
    let at = (get_or s.queue.now k.q-index no_queued).room in
    record {
      fine = grind (arith, common_steps);
      times = counted-raised _ _ _ k.invariant.times _ at (c.place_fine.ensures.low c.if-not-place_fine.false)
          (λ j l. total-more (λ (q : Queued). one (eqb q.room j)) s.queue.now k.q-index no_queued (omega arith)) (rw c.from.ensures);
    }

pub returns : goal.returns
unfolding named_in
returns c =
    let s = c.args in
    let k = c.loop-q in
    let e = take_all k.q-index s.queue.now (omega arith) in
    rw (rw e at k.invariant.fine, counted-is (places_naming s.queue.now) k.times (rw e at k.invariant.times))
