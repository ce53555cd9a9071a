-- What a changed record owns, and whether its modes still agree: where they fall, where it lends, where one mode is new.
use Rattle.std.specs.Prelude.{◌≡◌, ◌≢◌, ◌⊎◌, true, ℕ, ◌≤◌}
use Rattle.std.proofs.Common.{sym, ◌∙◌, inl, inr, arith}
use Rattle.base.specs.Sums.{same?}
use Rattle.modes.specs.Codes.{none}
use Rattle.modes.specs.Modes.{agrees, can_lend}
use Rattle.modes.specs.Under.{under, small}
use Rattle.modes.proofs.Laws.{agrees-sym, lends_some, lends-agrees, lends-le, lends-under, under-agree, agrees-under, under-trans, under-small-falls, low_small}
use Rattle.room.specs.declared.Room.{Room}
use Rattle.room.specs.Limits.{room_limit}
use Rattle.room.specs.Owned.{owned}
use Rattle.owning.specs.Parts.{part}
use Rattle.owning.specs.Clauses.{Agreeing}
use Rattle.owning.proofs.Owned.{part_owned, owned-part, owned-any, part-under, agrees-part}
use Rattle.owning.proofs.Changes.{Falls, Alters}

-- what is under a small mode is at most that
pub under-small-le : (a b : ℕ) → small b ≡ true → under a b ≡ true → a ≤ b
under-small-le a b h u = go (same? a b)
  where
    go : (a ≡ b) ⊎ (a ≢ b) → a ≤ b
    go (inl e) = omega arith
    go (inr e) = omega (arith, (under-small-falls a b h u e).1)

-- only none is under none
pub under_none : (a : ℕ) → under a none ≡ true → a ≡ none
under_none a u = omega (arith, under-small-le a none (low_small none (omega arith)) u)

module _ (r s : Room) (a : Agreeing r) where
  -- modes that fall agree as before, and their strongest falls
  pub falls-agreeing : Falls r s → Agreeing s
  falls-agreeing f i j p q ne =
      under-agree (part s i) (part r i) (part s j) (f i p) (agrees-under (part s j) (part r j) (part r i) (f j q) (a i j p q ne))

  pub falls-owned : Falls r s → under (owned s) (owned r) ≡ true
  falls-owned f =
      owned-any s (λ (m : ℕ). under m (owned r) ≡ true) (λ i h. under-trans (part s i) (part r i) (owned r) (f i h) (part-under r a i h))

  module _ (x m : ℕ) (c : Alters r s x m) where
    -- one mode is new, and agrees with the others
    pub alters-agreeing : ((i : ℕ) → i ≤ room_limit → i ≢ x → agrees m (part r i) ≡ true) → Agreeing s
    alters-agreeing g i j p q ne = go (same? i x) (same? j x)
      where
        go : (i ≡ x) ⊎ (i ≢ x) → (j ≡ x) ⊎ (j ≢ x) → agrees (part s i) (part s j) ≡ true
        go (inl e) (inl k) = absurd (ne (e ∙ sym k))
        go (inl e) (inr k) = rw (e, c.there, c.others j q k) (g j q k)
        go (inr e) (inl k) = rw (k, c.there, c.others i p e) (agrees-sym (part r i) m ∙ g i p e)
        go (inr e) (inr k) = rw (c.others i p e, c.others j q k) (a i j p q ne)

    -- what is owned can lend the new mode: that agrees with the others, and owned does not grow
    module _ (can : can_lend (owned r) m ≡ true) where
      pub loan-agreeing : Agreeing s
      loan-agreeing = alters-agreeing (λ i h ne. agrees-part r a m (agrees-sym m (owned r) ∙ lends-agrees (owned r) m can) i h)

      pub loan-owned : under (owned s) (owned r) ≡ true
      loan-owned = owned-any s (λ (m : ℕ). under m (owned r) ≡ true) (λ i h. go i h (same? i x))
        where
          go : (i : ℕ) → i ≤ room_limit → (i ≡ x) ⊎ (i ≢ x) → under (part s i) (owned r) ≡ true
          go i h (inl e) = rw (e, c.there) (lends-under (owned r) m can)
          go i h (inr e) = rw (c.others i h e) (part-under r a i h)

      -- where no mode gives way to the loan, owned is as it was
      pub loan-same : part r x ≡ none → owned s ≡ owned r
      loan-same z = omega (arith, upper, lower (same? (owned-part r).0 x))
        where
          upper : owned s ≤ owned r
          upper = owned-any s (λ (m : ℕ). m ≤ owned r) (λ i h. go i h (same? i x))
            where
              go : (i : ℕ) → i ≤ room_limit → (i ≡ x) ⊎ (i ≢ x) → part s i ≤ owned r
              go i h (inl e) = rw (e, c.there) (lends-le (owned r) m can)
              go i h (inr e) = rw (c.others i h e) (part_owned r i h)

          lower : ((owned-part r).0 ≡ x) ⊎ ((owned-part r).0 ≢ x) → owned r ≤ owned s
          lower (inl e) =
              let k : owned r ≡ none = rw e at (owned-part r).2 ∙ z in
              absurd (omega (arith, lends_some (owned r) m can, lends-le (owned r) m can))
          lower (inr e) = omega (arith, (owned-part r).2, c.others (owned-part r).0 (owned-part r).1 e, part_owned s (owned-part r).0 (owned-part r).1)

    -- what is owned is under the new mode: then that is what is owned
    module _ (fits : under (owned r) m ≡ true) (weak : small m ≡ true) (low : x ≤ room_limit) where
      part-fits : (i : ℕ) → i ≤ room_limit → under (part r i) m ≡ true
      part-fits i h = under-trans (part r i) (owned r) m (part-under r a i h) fits

      pub grant-owned : owned s ≡ m
      grant-owned = omega (arith, upper, c.there, part_owned s x low)
        where
          upper : owned s ≤ m
          upper = owned-any s (λ (k : ℕ). k ≤ m) (λ i h. go i h (same? i x))
            where
              go : (i : ℕ) → i ≤ room_limit → (i ≡ x) ⊎ (i ≢ x) → part s i ≤ m
              go i h (inl e) = rw (e, c.there) (omega arith)
              go i h (inr e) = rw (c.others i h e) (under-small-le (part r i) m weak (part-fits i h))
