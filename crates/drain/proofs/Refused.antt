-- A quiet table is at rest: every delivery and every hand-back is refused. So each reached table is at rest, or one of them is accepted.
use Rattle.std.specs.Prelude.{◌≡◌, refl, ◌⊎◌, true, [], ℕ}
use Rattle.std.proofs.Common.{inl, inr, ⊎_elim, eqb-true}
use Rattle.base.specs.Tests.{or-use}
use Rattle.std.specs.Prelude.{None}
use Rattle.table.specs.declared.Table.{Table}
use Rattle.table.specs.Numbers.{DONE}
use Rattle.table.specs.Tables.{messages_of}
use Rattle.table.specs.Oldest.{oldest_in, oldest_of}
use Rattle.rules.specs.declared.Event.{Event}
use Rattle.rules.specs.Events.{HANDBACK, is_hand_back, is_deliver}
use Rattle.rules.specs.Refusals.{refusal}
use Rattle.facts.specs.Accepted.{Accepted, accepted, unrefused}
use Rattle.safe.specs.Reached.{Reached}
use Rattle.drain.specs.Drains.{is_draining, Resting}
use Rattle.drain.proofs.Quiet.{Quiet, Moves, quiet-or-moves}

-- with no message under way no wire has one
nothing-found : (t : Table) (a b : ℕ) → messages_of t ≡ [] → oldest_of t a b ≡ None
unfolding oldest_of oldest_in
nothing-found t a b h = rw h refl

module _ (t : Table) (quiet : Quiet t) (e : Event) (is : refusal t e ≡ DONE) where
  accepts : Accepted t e
  accepts = accepted t e is

  -- 8 EMPTY
  delivers-none : is_deliver e ≡ true → ⊥
  delivers-none d = accepts.found d (nothing-found t e.room e.other quiet.still)

  -- 5 WAITING, and 7 NOT HELD: "HANDBACK of none"
  hands-back-none : e.kind ≡ HANDBACK → ⊥
  hands-back-none kind = quiet.waits e.room accepts.low (accepts.had (rw kind refl)) (accepts.idle (rw kind refl))

quiet-rests : (t : Table) → Quiet t → Resting t
unfolding is_draining
quiet-rests t quiet e is done =
    ⊎_elim (delivers-none t quiet e (unrefused t e done)) (λ b. hands-back-none t quiet e (unrefused t e done) (eqb-true e.kind HANDBACK b))
    (or-use (is_deliver e) (is_hand_back e) is)

-- each reached table is at rest, or some delivery or hand-back is accepted
pub rests-or-moves : (n : ℕ) (t : Table) → Reached n t → Resting t ⊎ Moves t
rests-or-moves n t r = ⊎_elim (λ q. inl (quiet-rests t q)) inr (quiet-or-moves n t r)
