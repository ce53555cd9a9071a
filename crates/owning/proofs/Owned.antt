-- What a room owns is the strongest of its modes, and one of them.
use Rattle.std.specs.Prelude.{◌≡◌, ◌≢◌, ◌⊎◌, true, ℕ, ◌≤◌, ◌<◌}
use Rattle.std.proofs.Math.Path.{refl}
use Rattle.std.proofs.Common.{sym, ◌∙◌, ap, inl, inr, arith, lt-ltb}
use Rattle.base.specs.Sums.{same?, below?}
use Rattle.modes.specs.Modes.{agrees}
use Rattle.modes.specs.Under.{under}
use Rattle.modes.proofs.Laws.{agrees-under, under-refl, weaker-under}
use Rattle.room.specs.declared.Room.{Room}
use Rattle.room.specs.Limits.{room_limit}
use Rattle.room.specs.Record.{entry_at}
use Rattle.room.specs.Owned.{owned, has_no_entries}
use Rattle.room.proofs.Owning.{owned-either, owned-held, owned-entry, no-entries-at}
use Rattle.owning.specs.Parts.{part}
use Rattle.owning.specs.Clauses.{Agreeing}

module _ (r : Room) where
  -- the parts of a room are its entries, and past them what it holds
  pub part-entry : (j : ℕ) → j < room_limit → part r j ≡ (entry_at r j).mode
  unfolding part
  part-entry j h = simp (lt-ltb j room_limit h)

  pub part_held : part r room_limit ≡ r.held
  unfolding part
  part_held = refl

  -- owned is some part, and every part is at most that
  pub owned-part : (j : ℕ) × (j ≤ room_limit) × (owned r ≡ part r j)
  owned-part =
      owned-either r (λ (m : ℕ). (j : ℕ) × (j ≤ room_limit) × (m ≡ part r j)) (room_limit, omega arith, sym part_held)
      (λ c h. (c, omega arith, sym (part-entry c h)))

  pub part_owned : (i : ℕ) → i ≤ room_limit → part r i ≤ owned r
  part_owned i h = go (below? i room_limit)
    where
      go : (i < room_limit) ⊎ (room_limit ≤ i) → part r i ≤ owned r
      go (inl l) = omega (arith, part-entry i l, owned-entry r i l)
      go (inr l) = let e : i ≡ room_limit = omega arith in rw e (omega (arith, part_held, owned-held r))

  -- what holds of each part holds of owned
  pub owned-any : (P : ℕ → Type 0) → ((i : ℕ) → i ≤ room_limit → P (part r i)) → P (owned r)
  owned-any P f = rw owned-part.2 (f owned-part.0 owned-part.1)

  -- of modes that agree each is under the strongest
  pub part-under : Agreeing r → (i : ℕ) → i ≤ room_limit → under (part r i) (owned r) ≡ true
  part-under a i h = go (same? i owned-part.0)
    where
      go : (i ≡ owned-part.0) ⊎ (i ≢ owned-part.0) → under (part r i) (owned r) ≡ true
      go (inl e) = rw (e, ← owned-part.2) (under-refl (owned r))
      go (inr e) =
          weaker-under (part r i) (owned r) (rw owned-part.2 (a i owned-part.0 h owned-part.1 e)) (part_owned i h)

  -- the same, of an entry and of the held mode
  pub entry-under : Agreeing r → (j : ℕ) → j < room_limit → under (entry_at r j).mode (owned r) ≡ true
  entry-under a j h = rw (← part-entry j h) (part-under a j (omega arith))

  pub held-under : Agreeing r → under r.held (owned r) ≡ true
  held-under a = ap (λ (m : ℕ). under m (owned r)) (sym part_held) ∙ part-under a room_limit (omega arith)

  -- so what agrees with owned agrees with each
  pub agrees-part : Agreeing r → (m : ℕ) → agrees m (owned r) ≡ true → (i : ℕ) → i ≤ room_limit → agrees m (part r i) ≡ true
  agrees-part a m g i h = agrees-under (part r i) (owned r) m (part-under a i h) g

  -- a room that owns nothing holds nothing
  pub none-held : owned r ≡ 0 → r.held ≡ 0
  none-held e = omega (arith, owned-held r)

  -- with no entries every part but the held mode is none
  pub entries_none : has_no_entries r ≡ true → (i : ℕ) → i < room_limit → part r i ≡ 0
  entries_none e i h = part-entry i h ∙ no-entries-at r e i h
