-- The events that bytes are: none where less than four are left, else a first one and those of the bytes behind it.
use mathlib.Core.Path.{◌≡◌, refl}
use mathlib.Core.List.{List, [], ◌∷◌}
use Prim.Native.Nat.{ℕ, ◌+◌, ◌≤◌, ◌<◌}
use native.Mathlib.Omega.{arith}
use lib.ListN.{length, take, drop}
use Rattle.std.specs.Prelude.{fold, slice_index_or}
use Rattle.table.specs.declared.Table.{Table}
use Rattle.rules.specs.declared.Event.{Event}
use Rattle.rules.specs.Step.{step_of, runs}
use Rattle.run.specs.Runs.{events_of}

pub events_none : (xs : List ℕ) → length xs < 4 → events_of xs ≡ []
unfolding events_of
events_none [] h = refl
events_none (a ∷ []) h = refl
events_none (a ∷ b ∷ []) h = refl
events_none (a ∷ b ∷ c ∷ []) h = refl
events_none (a ∷ b ∷ c ∷ d ∷ xs) h = absurd (omega (arith, h))

abbrev pub event_of : List ℕ → Event
event_of xs = record { kind = slice_index_or xs 0 0; room = slice_index_or xs 1 0; other = slice_index_or xs 2 0; mode = slice_index_or xs 3 0 }

pub events_more : (xs first rest : List ℕ) → first ≡ take 4 xs → rest ≡ drop 4 xs → length rest + 4 ≡ length xs → events_of xs ≡ event_of first ∷ events_of rest
unfolding events_of
events_more [] f r p q h = absurd (omega (arith, h))
events_more (a ∷ []) f r p q h = absurd (omega (arith, h))
events_more (a ∷ b ∷ []) f r p q h = absurd (omega (arith, h))
events_more (a ∷ b ∷ c ∷ []) f r p q h = absurd (omega (arith, h))
events_more (a ∷ b ∷ c ∷ d ∷ xs) f r p q h = rw (p, q) refl

-- there are no more of them than bytes
pub events-few : (xs : List ℕ) → length (events_of xs) ≤ length xs
unfolding events_of
events-few [] = omega arith
events-few (a ∷ []) = omega arith
events-few (a ∷ b ∷ []) = omega arith
events-few (a ∷ b ∷ c ∷ []) = omega arith
events-few (a ∷ b ∷ c ∷ d ∷ xs) = omega (arith, events-few xs)

-- a fold of steps is a run
pub runs-fold : (t : Table) (es : List Event) (u : Table) → u ≡ fold (λ (t : Table) e. (step_of t e).table) t es → u ≡ runs t es
unfolding runs
runs-fold t [] u h = h
runs-fold t (e ∷ es) u h = runs-fold (step_of t e).table es u h
