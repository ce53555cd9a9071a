-- What one room owns is none, or under an entry of another: what that other may lend or pass to it.
use Rattle.std.specs.Prelude.{◌≡◌, ◌≢◌, ◌⊎◌, true, ℕ, ◌≤◌, ◌<◌}
use Rattle.std.proofs.Common.{inl, inr, arith}
use Rattle.base.specs.Sums.{same?}
use Rattle.modes.specs.Codes.{none, IR}
use Rattle.modes.specs.Modes.{can_lend}
use Rattle.modes.specs.Under.{under, small}
use Rattle.modes.proofs.Laws.{under-trans, under-refl, none-under, small-under-loan}
use Rattle.room.specs.declared.Room.{Room}
use Rattle.room.specs.Limits.{room_limit}
use Rattle.room.specs.Record.{entry_at}
use Rattle.room.specs.Owned.{owned}
use Rattle.owning.specs.Clauses.{Agreeing}
use Rattle.owning.proofs.Owned.{entry-under}

-- y owns none, or a mode under some entry of p
abbrev pub Covered : Room → Room → Type 0
Covered p y = (owned y ≡ none) ⊎ ((j : ℕ) × (j < room_limit) × (under (owned y) (entry_at p j).mode ≡ true))

module _ (p y : Room) (a : Agreeing p) where
  -- then it is under what p owns
  pub covered-under : Covered p y → under (owned y) (owned p) ≡ true
  covered-under (inl e) = rw e (none-under (owned p))
  covered-under (inr (j, h, u)) = under-trans (owned y) (entry_at p j).mode (owned p) u (entry-under p a j h)

  -- a loan of p's fits over what y owns, if a loan of IR finds no more than IR there
  pub loan-fits : (m : ℕ) → can_lend (owned p) m ≡ true → ((j : ℕ) → j < room_limit → small (entry_at p j).mode ≡ true)
      → Covered p y → (m ≡ IR → owned y ≤ IR) → under (owned y) m ≡ true
  loan-fits m can weak (inl e) light = rw e (none-under m)
  loan-fits m can weak (inr (j, h, u)) light = go (same? m IR)
    where
      go : (m ≡ IR) ⊎ (m ≢ IR) → under (owned y) m ≡ true
      go (inl q) = rw q (low (same? (owned y) none))
        where
          low : (owned y ≡ none) ⊎ (owned y ≢ none) → under (owned y) IR ≡ true
          low (inl z) = rw z (none-under IR)
          low (inr z) = let k : owned y ≡ IR = omega (arith, light q) in rw k (under-refl IR)
      go (inr q) =
          under-trans (owned y) (entry_at p j).mode m u
          (small-under-loan (owned p) m (entry_at p j).mode can q (weak j h) (entry-under p a j h))
