-- The mode that a room waits for, by what it wants and what it holds.
use Rattle.std.specs.Prelude.{◌≡◌, ◌≢◌, true, ℕ, ◌≤◌, eqb}
use Rattle.std.proofs.Math.Path.{refl}
use native.Mathlib.Omega.{arith}
use borrow.Author.Tests.{eqb-true, eq-eqb, ne_eqb}
use Rattle.base.specs.Choice.{by-test, split}
use Rattle.base.specs.Tests.{and_left}
use Rattle.modes.specs.Codes.{U}
use Rattle.room.specs.declared.Room.{Room}
use Rattle.table.specs.Formed.{due}
use Rattle.rules.specs.Rules.{upgrade_waits}

module _ (r : Room) where
  -- only these two modes count
  pub due-same : (s : Room) → s.held ≡ r.held → s.wanted ≡ r.wanted → due s ≡ due r
  unfolding due
  due-same s h w = rw (h, w) refl

  -- one that wants nothing waits for nothing,
  pub due-none : r.wanted ≡ 0 → due r ≡ 0
  unfolding due
  due-none e = by-test (λ (m : ℕ). m ≡ 0) (eqb r.held 0) r.wanted 0 (λ h. e) (λ h. refl)

  -- and so does one that holds, but perhaps for an upgrade
  pub due-held : r.held ≢ 0 → due r ≡ 0
  unfolding due
  due-held e = simp (ne_eqb r.held 0 e)

  pub upgrade-due : upgrade_waits r ≡ true → due r ≡ 0
  unfolding upgrade_waits
  upgrade-due e = due-held (λ z. omega (arith, eqb-true r.held U (and_left (eqb r.held U) _ e)))

  -- one that holds nothing waits for what it wants
  pub due-wanted : r.held ≡ 0 → due r ≡ r.wanted
  unfolding due
  due-wanted e = simp (eq-eqb r.held 0 e)

  -- a room that waits for a mode wants it, and holds nothing
  pub due-wants : (m : ℕ) → due r ≡ m → 1 ≤ m → (r.wanted ≡ m) × (r.held ≡ 0)
  unfolding due
  due-wants m e h = split (eqb r.held 0) (λ b. (rw b at e, eqb-true _ _ b)) (λ b. absurd (none (rw b at e)))
    where
      none : 0 ≡ m → ⊥
      none z = omega arith
