-- When nothing more can be accepted, with nobody asking or upgrading: nothing is under way, and no room could hand back.
use Rattle.std.specs.Prelude.{◌≡◌, ◌≢◌, Bool, ◌&&◌, ◌||◌}
use Rattle.std.proofs.Math.Logic.{⊎_elim}
use Rattle.std.proofs.Math.Bool.{true, false, not}
use Rattle.std.proofs.Common.{arith}
use Rattle.std.proofs.Math.Dec.{leb, eqb}
use borrow.Author.Tests.{eqb-true, leb-false, not-true}
use Rattle.base.specs.Choice.{split}
use Rattle.base.specs.Tests.{and_left, and_right, or-use, clash}
use Rattle.base.specs.Below.{all_below, all-at}
use Rattle.table.specs.declared.Table.{Table}
use Rattle.table.specs.Numbers.{DONE}
use Rattle.table.specs.Tables.{room_at}
use Rattle.table.specs.Oldest.{oldest_in, oldest_of}
use Rattle.rules.specs.declared.Event.{Event}
use Rattle.rules.specs.Events.{HANDBACK, DELIVER, is_hand_back, is_deliver}
use Rattle.rules.specs.Refusals.{first, is_found, refusal_as}
use Rattle.variants.specs.Step.{Rules, step_by}

-- no delivery and no hand-back is accepted
abbrev pub Rests : Rules → Table → Type 0
Rests r t = (e : Event) → (is_deliver e || is_hand_back e) ≡ true → (step_by r t e).«number» ≢ DONE

-- no message is on the wires, and each room that holds a mode waits
unfoldable pub is_still : Table → Bool
is_still t = eqb t.count 0 && all_below t.n (λ x. eqb (room_at t x).held 0 || not (eqb (room_at t x).wanted 0))

module _ (r : Rules) (t : Table) (still : is_still t ≡ true) where
  delivery : (e : Event) → e.kind ≡ DELIVER → (step_by r t e).«number» ≢ DONE
  unfolding step_by refusal_as first is_found oldest_of oldest_in is_still
  delivery e kind =
      let empty : t.count ≡ 0 = eqb-true _ _ (and_left _ _ still) in
      rw (kind, empty) (split (leb t.n e.room || leb t.n e.other) (λ b. rw b (λ z. omega arith)) (λ b. rw b (λ z. omega arith)))

  hand-back : (e : Event) → e.kind ≡ HANDBACK → (step_by r t e).«number» ≢ DONE
  unfolding step_by refusal_as first is_still
  hand-back e kind =
      rw kind
      (split (leb t.n e.room) (λ b. rw b (λ z. omega arith)) λ b.
      split (eqb (room_at t e.room).wanted 0)
      (λ w. rw (b, w, holds w b) (λ z. omega arith))
      (λ w. rw (b, w) (λ z. omega arith)))
    where
      holds : eqb (room_at t e.room).wanted 0 ≡ true → leb t.n e.room ≡ false → eqb (room_at t e.room).held 0 ≡ true
      holds w b =
          ⊎_elim (λ h. h) (λ h. clash w (not-true _ h))
          (or-use _ _ (all-at t.n (λ x. eqb (room_at t x).held 0 || not (eqb (room_at t x).wanted 0)) (and_right (eqb t.count 0) _ still) e.room (leb-false _ _ b)))

  pub rests : Rests r t
  rests e h = ⊎_elim (λ d. delivery e (eqb-true _ _ d)) (λ d. hand-back e (eqb-true _ _ d)) (or-use (is_deliver e) (is_hand_back e) h)
