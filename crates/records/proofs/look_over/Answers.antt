use borrow.Author.Rules.{rules}
use native.Mathlib.Omega.{arith}
use Rattle.std.proofs.Common.{◌≡◌, ℕ, refl, sym, ◌∙◌, get_or}
use Rattle.std.proofs.lemmas.Grind.{common_steps}
use Rattle.std.proofs.lemmas.List.FromFn.{fill_by_all}
use Rattle.base.specs.Below.{all_more, all-fails}
use Rattle.base.specs.Sums.{one, one-le, count-below-le, sum_more, sum-none}
use Rattle.room.specs.Limits.{room_limit}
use Rattle.room.specs.Record.{no_room}
use Rattle.records.specs.Parts.{room_place_fine}
use Rattle.records.specs.Seen.{no_standing, standing, seen_in}
use Rattle.records.proofs.Lists.{byte-is}
use Rattle.records.proofs.look_over.Goals as goal

pub loop-c-init : goal.loop-c-init
loop-c-init c = record { fine = refl; tokens = sym (sum-none _); long = refl; standings = λ k h. absurd (omega arith) }

pub returns-then-not-room_fine : goal.returns-then-not-room_fine
unfolding seen_in
returns-then-not-room_fine c =
    let s = c.args in
    rw (all-fails (λ k. room_place_fine s.n k (get_or s.rooms.now k no_room)) room_limit c.loop-c.c (omega arith) (sym c.room_fine.ensures ∙ c.if-not-room_fine.true))

pub overflow_add-tokens : goal.overflow_add-tokens
overflow_add-tokens c =
    let s = c.args in
    let has_token = λ (k : ℕ). (get_or s.rooms.now k no_room).token in
    omega (arith, count-below-le c.loop-c.c has_token, byte-is (has_token c.loop-c.c), one-le (has_token c.loop-c.c))

pub loop-c-preserved : goal.loop-c-preserved
loop-c-preserved c =
    let s = c.args in
    let k = c.loop-c in
    let has_token = λ (k : ℕ). (get_or s.rooms.now k no_room).token in
    record {
      fine = all_more (λ k. room_place_fine s.n k (get_or s.rooms.now k no_room)) k.c k.invariant.fine (sym c.room_fine.ensures ∙ c.if-not-room_fine.false);
      tokens = omega (arith, sum_more k.c (λ k. one (has_token k)), byte-is (has_token k.c));
      long = search rules;
      standings = λ j l. grind (arith, common_steps, k.invariant.standings j);
    }

pub returns : goal.returns
unfolding seen_in
returns c =
    let s = c.args in
    let k = c.loop-c in
    let e : k.c ≡ room_limit = omega arith in
    let f = rw e at k.invariant.fine in
    let t = rw e at k.invariant.tokens in
    rw (f, ← t, ← (fill_by_all (λ k. standing (get_or s.rooms.now k no_room)) k.standings room_limit no_standing k.invariant.long (rw e at k.invariant.standings)))
