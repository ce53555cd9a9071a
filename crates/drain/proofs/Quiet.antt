-- A quiet table: nothing is under way, and whoever holds waits. From any other some delivery or hand-back is accepted.
use Rattle.std.specs.Prelude.{◌≡◌, ◌≢◌, ◌⊎◌, Bool, true, false, not, ◌&&◌, List, [], ◌∷◌, ℕ, ◌<◌, eqb}
use Rattle.std.proofs.Math.Path.{refl}
use Rattle.std.proofs.Common.{inl, inr, arith}
use borrow.Author.Tests.{eq-eqb, ne_eqb, eqb-true, eqb-false, not-true}
use Rattle.base.specs.Tests.{and_left, and_right, clash}
use Rattle.base.specs.Below.{some_or_none}
use Rattle.std.specs.Prelude.{Some}
use Rattle.table.specs.Oldest.{found_at}
use Rattle.table.specs.declared.Table.{Table}
use Rattle.table.specs.declared.Wire.{Wire}
use Rattle.table.specs.Numbers.{DONE}
use Rattle.table.specs.Tables.{room_at, messages_of}
use Rattle.table.specs.Oldest.{oldest_in, oldest_of}
use Rattle.rules.specs.declared.Event.{Event}
use Rattle.rules.specs.Events.{hands_back, delivers}
use Rattle.rules.specs.Step.{step_of}
use Rattle.safe.specs.Reached.{Reached}
use Rattle.safe.proofs.Always.{reached-safe, delivery-accepted, hand-back-accepted}
use Rattle.drain.specs.Drains.{is_draining}

pub record Quiet (t : Table) : Type 0 where
  pub still : messages_of t ≡ []
  pub waits : (c : ℕ) → c < t.n → (room_at t c).held ≢ 0 → (room_at t c).wanted ≢ 0

-- some delivery or hand-back is accepted
abbrev pub Moves : Table → Type 0
Moves t = (e : Event) × (is_draining e ≡ true) × ((step_of t e).«number» ≡ DONE)

-- the first message of all is the oldest on its wire
first_found : (t : Table) (w : Wire) (l : List Wire) → messages_of t ≡ w ∷ l → oldest_of t w.«from» w.to ≡ Some (found_at 0 w.message)
unfolding oldest_of oldest_in
first_found t w l h = rw (h, eq-eqb w.«from» w.«from» refl, eq-eqb w.to w.to refl) refl

module _ (n : ℕ) (t : Table) (r : Reached n t) where
  -- whether room c holds and does not wait
  is_free : ℕ → Bool
  is_free c = not (eqb (room_at t c).held 0) && eqb (room_at t c).wanted 0

  free-moves : (c : ℕ) → c < t.n → is_free c ≡ true → Moves t
  unfolding is_free is_draining
  free-moves c low h = (hands_back c, refl, hand-back-accepted n t r (hands_back c) refl (omega (arith, (reached-safe n t r).rooms)) holds idle)
    where
      holds : (room_at t c).held ≢ 0
      holds = eqb-false _ _ (not-true _ (and_left _ _ h))

      idle : (room_at t c).wanted ≡ 0
      idle = eqb-true _ _ (and_right (not (eqb (room_at t c).held 0)) _ h)

  wire-moves : (w : Wire) (l : List Wire) → messages_of t ≡ w ∷ l → Moves t
  unfolding is_draining
  wire-moves w l h =
      (delivers w.«from» w.to, refl, delivery-accepted n t r (delivers w.«from» w.to) refl 0 w.message (first_found t w l h))

  -- whoever is not free and holds waits
  bound-waits : ((c : ℕ) → c < t.n → is_free c ≡ false) → (c : ℕ) → c < t.n → (room_at t c).held ≢ 0 → (room_at t c).wanted ≢ 0
  unfolding is_free
  bound-waits f c low holds idle = clash (rw (ne_eqb _ _ holds, idle) refl) (f c low)

  -- each reached table is quiet, or some delivery or hand-back is accepted
  pub quiet-or-moves : Quiet t ⊎ Moves t
  quiet-or-moves = go (messages_of t) refl (some_or_none t.n is_free)
    where
      go : (l : List Wire) → messages_of t ≡ l → ((c : ℕ) × (c < t.n) × (is_free c ≡ true)) ⊎ ((c : ℕ) → c < t.n → is_free c ≡ false) → Quiet t ⊎ Moves t
      go (w ∷ l) h s = inr (wire-moves w l h)
      go [] h (inl (c, low, f)) = inr (free-moves c low f)
      go [] h (inr f) = inl (record { still = h; waits = bound-waits f })
