-- What a room owns is one of its modes, and none of them is stronger.
use mathlib.Core.Path.{◌≡◌}
use mathlib.Core.Logic.{◌≢◌, ◌⊎◌, inl, inr}
use mathlib.Core.Bool.{true}
use Prim.Native.Nat.{ℕ, zero, suc, ◌≤◌, ◌<◌}
use native.Mathlib.Nat.{not-suc-le-zero}
use native.Mathlib.Omega.{arith}
use lib.Dec.{eqb}
use borrow.Author.Tests.{eqb-true, eq-eqb}
use Rattle.base.specs.Choice.{by-test}
use Rattle.base.specs.Sums.{same?}
use Rattle.base.specs.Below.{all-at, all_of}
use Rattle.modes.specs.Modes.{is_stronger}
use Rattle.modes.proofs.Laws.{stronger-true, stronger-false}
use Rattle.room.specs.declared.Room.{Room}
use Rattle.room.specs.Limits.{room_limit}
use Rattle.room.specs.Record.{entry_at}
use Rattle.room.specs.Owned.{larger, strongest, owned, has_no_entries}

-- the stronger of two modes is one of them, and at least either
larger-either : (a b : ℕ) (P : ℕ → Type 0) → (a < b → P b) → (b ≤ a → P a) → P (larger a b)
unfolding larger
larger-either a b P p q = by-test P (is_stronger b a) b a (λ e. p (stronger-true b a e)) (λ e. q (stronger-false b a e))

larger-above : (a b : ℕ) → (a ≤ larger a b) × (b ≤ larger a b)
larger-above a b =
    larger-either a b (λ (m : ℕ). (a ≤ m) × (b ≤ m)) (λ l. (omega arith, omega arith)) (λ l. (omega arith, omega arith))

module _ (r : Room) where
  strongest-either : (P : ℕ → Type 0) (k : ℕ) → P r.held → ((c : ℕ) → c < k → P (entry_at r c).mode) → P (strongest r k)
  unfolding strongest
  strongest-either P zero p q = p
  strongest-either P (suc k) p q =
      larger-either (strongest r k) (entry_at r k).mode P (λ l. q k (omega arith)) (λ l. strongest-either P k p (λ c h. q c (omega arith)))

  strongest-held : (k : ℕ) → r.held ≤ strongest r k
  unfolding strongest
  strongest-held zero = omega arith
  strongest-held (suc k) = omega (arith, strongest-held k, (larger-above (strongest r k) (entry_at r k).mode).0)

  strongest-entry : (k c : ℕ) → c < k → (entry_at r c).mode ≤ strongest r k
  unfolding strongest
  strongest-entry zero c h = absurd (not-suc-le-zero h)
  strongest-entry (suc k) c h = go (same? c k) (strongest-entry k c) (larger-above (strongest r k) (entry_at r k).mode)
    where
      go : {m : ℕ} → (c ≡ k) ⊎ (c ≢ k) → (c < k → (entry_at r c).mode ≤ strongest r k)
          → (strongest r k ≤ m) × ((entry_at r k).mode ≤ m) → (entry_at r c).mode ≤ m
      go (inl e) next above = rw e above.1
      go (inr e) next above = omega (arith, next (omega arith), above.0)

  -- what holds of the held mode and of each entry holds of what is owned
  pub owned-either : (P : ℕ → Type 0) → P r.held → ((c : ℕ) → c < room_limit → P (entry_at r c).mode) → P (owned r)
  unfolding owned
  owned-either P = strongest-either P room_limit

  -- what is owned is at least each of them
  pub owned-held : r.held ≤ owned r
  unfolding owned
  owned-held = strongest-held room_limit

  pub owned-entry : (c : ℕ) → c < room_limit → (entry_at r c).mode ≤ owned r
  unfolding owned
  owned-entry = strongest-entry room_limit

  -- "With no entries": each is none
  pub no-entries-at : has_no_entries r ≡ true → (c : ℕ) → c < room_limit → (entry_at r c).mode ≡ 0
  unfolding has_no_entries
  no-entries-at e c h = eqb-true _ _ (all-at room_limit (λ c. eqb (entry_at r c).mode 0) e c h)

  pub no-entries-of : ((c : ℕ) → c < room_limit → (entry_at r c).mode ≡ 0) → has_no_entries r ≡ true
  unfolding has_no_entries
  no-entries-of e = all_of room_limit (λ c. eqb (entry_at r c).mode 0) (λ c h. eq-eqb _ _ (e c h))

  -- a room that holds nothing and has no entries owns nothing
  pub owned-none : r.held ≡ 0 → has_no_entries r ≡ true → owned r ≡ 0
  owned-none e none = owned-either (λ (m : ℕ). m ≡ 0) e (no-entries-at none)
