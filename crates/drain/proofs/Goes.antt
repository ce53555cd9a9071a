-- From each reached table one can go on as long as something can be accepted.
use Rattle.std.specs.Prelude.{◌≡◌, ◌⊎◌, true}
use Rattle.std.proofs.Math.Path.{refl}
use Rattle.std.proofs.Math.Logic.{inl, inr}
use Prim.Native.Nat.{ℕ, zero, suc}
use Rattle.table.specs.declared.Table.{Table}
use Rattle.table.specs.Numbers.{DONE}
use Rattle.rules.specs.declared.Event.{Event}
use Rattle.rules.specs.Events.{hands_back}
use Rattle.rules.specs.Step.{step_of}
use Rattle.safe.specs.Reached.{Reached}
use Rattle.drain.specs.Drains.{is_draining, drained_by, is_made, drained, Resting, firsts, GoesOn}
use Rattle.drain.proofs.Quiet.{Moves}
use Rattle.drain.proofs.Refused.{rests-or-moves}
use Rattle.drain.proofs.Further.{drained-by-reached}

module _ (t : Table) where
  -- an event that is accepted; where none can be, any
  chosen : Resting t ⊎ Moves t → Event
  chosen (inl q) = hands_back 0
  chosen (inr (e, d, q)) = e

  accepted-made : (e : Event) → is_draining e ≡ true → (step_of t e).«number» ≡ DONE → is_made t e ≡ true
  unfolding is_made
  accepted-made e d q = rw (d, q) refl

  chosen-made : (m : Resting t ⊎ Moves t) → Resting t ⊎ (is_made t (chosen m) ≡ true)
  unfolding chosen
  chosen-made (inl q) = inl q
  chosen-made (inr (e, d, q)) = inr (accepted-made e d q)

module _ (n : ℕ) where
  -- the first choice at a table, and the choices after it
  choice : (t : Table) → Reached n t → Event
  choice t r = chosen t (rests-or-moves n t r)

  pub choices : (t : Table) → Reached n t → ℕ → Event
  choices t r zero = choice t r
  choices t r (suc k) = choices (drained_by t (choice t r)) (drained-by-reached n t r (choice t r)) k

  pub choices-go-on : (t : Table) (r : Reached n t) → GoesOn t (choices t r)
  unfolding choice choices drained firsts
  choices-go-on t r zero = chosen-made t (rests-or-moves n t r)
  choices-go-on t r (suc k) = choices-go-on (drained_by t (choice t r)) (drained-by-reached n t r (choice t r)) k
