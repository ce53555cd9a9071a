-- How each change of a room's record changes its parts: one or two of them, or none.
use Rattle.std.specs.Prelude.{◌≡◌, ◌≢◌, ◌⊎◌, true, ℕ, ◌≤◌, ◌<◌, eqb, length}
use Rattle.std.proofs.Math.Path.{refl}
use Rattle.std.proofs.Common.{sym, ◌∙◌, ap, inl, inr, arith, get_or-set_same, get_or-set_other, eqb-true}
use Rattle.base.specs.Choice.{by-test}
use Rattle.base.specs.Tests.{and_right}
use Rattle.base.specs.Sums.{same?, below?}
use Rattle.std.specs.Prelude.{Option}
use Rattle.modes.specs.Codes.{none, IR}
use Rattle.modes.specs.Under.{under}
use Rattle.modes.proofs.Laws.{under-refl, none-under, IR-under, stronger-true}
use Rattle.room.specs.declared.Room.{Room}
use Rattle.room.specs.declared.Entry.{Entry}
use Rattle.room.specs.Limits.{room_limit}
use Rattle.room.specs.Record.{no_entry, entry_of, entry_at, with_modes, with_debt, set_entry}
use Rattle.room.specs.Owned.{owned}
use Rattle.room.specs.Rules.{next_link, lent_to, left, remaining, passed_to, credited, tokened_by, reduced}
use Rattle.facts.specs.Cases.{passed-either, credited-either, reduced-either}
use Rattle.owning.specs.Parts.{part}
use Rattle.owning.proofs.Owned.{part-entry, part_held, part_owned, owned-any}

-- every part is as it was
abbrev pub Same : Room → Room → Type 0
Same r s = (i : ℕ) → i ≤ room_limit → part s i ≡ part r i

-- every part is under what it was
abbrev pub Falls : Room → Room → Type 0
Falls r s = (i : ℕ) → i ≤ room_limit → under (part s i) (part r i) ≡ true

-- part x is m now, and every other is as it was
pub record Alters (r s : Room) (x m : ℕ) : Type 0 where
  pub there : part s x ≡ m
  pub others : (i : ℕ) → i ≤ room_limit → i ≢ x → part s i ≡ part r i

module _ (r s : Room) where
  -- rooms with the same parts own the same
  pub same-owned : Same r s → owned s ≡ owned r
  same-owned e = omega (
    arith,
    owned-any s (λ (m : ℕ). m ≤ owned r) (λ i h. omega (arith, part_owned r i h, e i h)),
    owned-any r (λ (m : ℕ). m ≤ owned s) (λ i h. omega (arith, part_owned s i h, e i h)),
  )

  pub same-falls : Same r s → Falls r s
  same-falls e i h = rw (e i h) (under-refl (part r i))

  -- the parts are read from the held mode and the entries alone
  pub same_parts : s.held ≡ r.held → s.entries ≡ r.entries → Same r s
  unfolding part
  same_parts e f i h = rw (e, f) refl

  pub alters-falls : (x m : ℕ) → Alters r s x m → under m (part r x) ≡ true → Falls r s
  alters-falls x m a u i h = go (same? i x)
    where
      go : (i ≡ x) ⊎ (i ≢ x) → under (part s i) (part r i) ≡ true
      go (inl e) = rw (e, a.there) u
      go (inr e) = rw (a.others i h e) (under-refl (part r i))

-- a record that has the held mode and the entries of an altered one is altered alike
alike : (r s t : Room) (x m : ℕ) → x ≤ room_limit → Alters r s x m → t.held ≡ s.held → t.entries ≡ s.entries → Alters r t x m
alike r s t x m h a e f =
    record {
      there = same_parts s t e f x h ∙ a.there;
      others = λ i l ne. same_parts s t e f i l ∙ a.others i l ne;
    }

module _ (r : Room) where
  -- another held mode
  pub modes-alters : (h v : ℕ) → Alters r (with_modes r h v) room_limit h
  modes-alters h v = record { there = part_held (with_modes r h v); others = entries }
    where
      entries : (i : ℕ) → i ≤ room_limit → i ≢ room_limit → part (with_modes r h v) i ≡ part r i
      entries i l ne = part-entry (with_modes r h v) i (omega arith) ∙ sym (part-entry r i (omega arith))

  -- another wanted mode alone
  pub wanted-same : (v : ℕ) → Same r (with_modes r r.held v)
  wanted-same v = same_parts r (with_modes r r.held v) refl refl

  -- a GRANT
  pub granted-alters : (lender : Option ℕ) (m l : ℕ) → Alters r (with_debt (with_modes r m 0) lender m l) room_limit m
  granted-alters lender m l =
      alike r (with_modes r m 0) (with_debt (with_modes r m 0) lender m l) room_limit m (omega arith) (modes-alters m 0) refl refl

  -- what is owed is no part
  pub credited-same : (m : ℕ) → Same r (credited r m)
  credited-same m = credited-either r m (Same r) (λ e. same_parts r _ refl refl) (λ e. same_parts r _ refl refl)

-- none and IR are under all that is stronger
pub weak-under : (m o : ℕ) → m ≤ IR → m < o → under m o ≡ true
weak-under m o weak less = go (same? m none)
  where
    go : (m ≡ none) ⊎ (m ≢ none) → under m o ≡ true
    go (inl e) = rw e (none-under o)
    go (inr e) = let k : m ≡ IR = omega arith in rw k (IR-under o (omega arith))

-- an entry of mode m, or none at all, is of mode m
pub entry-mode : (m l : ℕ) → (entry_of m l).mode ≡ m
unfolding entry_of
entry-mode m l =
    by-test (λ (e : Entry). e.mode ≡ m) (eqb m 0) no_entry (record { mode = m; link = l }) (λ e. sym (eqb-true m 0 e)) (λ e. refl)

module _ (r : Room) (y : ℕ) (long : length r.entries ≡ room_limit) (low : y < room_limit) where
  -- another entry
  set-alters : (e : Entry) (m : ℕ) → e.mode ≡ m → Alters r (set_entry r y e) y m
  set-alters e m q = record { there = here; others = λ i h ne. go i h ne (below? i room_limit) }
    where
      here : part (set_entry r y e) y ≡ m
      here = part-entry (set_entry r y e) y low ∙ ap (λ (e : Entry). e.mode) (get_or-set_same r.entries y e no_entry (omega arith)) ∙ q

      go : (i : ℕ) → i ≤ room_limit → i ≢ y → (i < room_limit) ⊎ (room_limit ≤ i) → part (set_entry r y e) i ≡ part r i
      go i h ne (inl l) =
          part-entry (set_entry r y e) i l ∙ ap (λ (e : Entry). e.mode) (get_or-set_other r.entries y i e no_entry ne) ∙ sym (part-entry r i l)
      go i h ne (inr l) = let k : i ≡ room_limit = omega arith in rw k (part_held (set_entry r y e) ∙ sym (part_held r))

  pub entry-alters : (m l : ℕ) → Alters r (set_entry r y (entry_of m l)) y m
  entry-alters m l = set-alters (entry_of m l) m (entry-mode m l)

  -- a loan
  pub lent-alters : (m : ℕ) → Alters r (lent_to r y m) y m
  unfolding lent_to
  lent-alters m = alike r (set_entry r y (entry_of m (next_link r.counter))) _ y m (omega arith) (entry-alters m (next_link r.counter)) refl refl

  -- a pass: "the entry for w is cleared"
  passed-same : Same (set_entry r y no_entry) (passed_to r y)
  unfolding left
  passed-same =
      passed-either r y (Same (set_entry r y no_entry)) (λ e. same_parts (set_entry r y no_entry) _ refl refl) (λ e. same_parts (set_entry r y no_entry) _ refl refl)

  pub passed-alters : Alters r (passed_to r y) y none
  passed-alters =
      let a = set-alters no_entry none refl in
      record {
        there = passed-same y (omega arith) ∙ a.there;
        others = λ i l ne. passed-same i l ∙ a.others i l ne;
      }

  pub passed-owned : owned (passed_to r y) ≡ remaining r y
  unfolding remaining
  passed-owned = same-owned (set_entry r y no_entry) (passed_to r y) passed-same

  -- a REDUCE: the entry falls to the new mode, which is none or IR, or stays
  pub reduced-falls : (l m : ℕ) → m ≤ IR → Falls r (reduced r y l m)
  reduced-falls l m weak =
      reduced-either r y l m (Falls r)
      (λ e. alters-falls r (set_entry r y (entry_of m l)) y m (entry-alters m l) (lower (stronger-true _ _ (and_right (eqb (entry_at r y).link l) _ e))))
      (λ e. same-falls r r (λ i h. refl))
    where
      lower : m < (entry_at r y).mode → under m (part r y) ≡ true
      lower h = weak-under m (part r y) weak (omega (arith, part-entry r y low))

  -- a TOKEN: the entry for its sender has changed, then the held mode
  pub tokened-held : (me m rest l : ℕ) → Alters (set_entry r y (entry_of rest l)) (tokened_by r me y m rest l) room_limit m
  unfolding tokened_by
  tokened-held me m rest l =
      alike (set_entry r y (entry_of rest l)) (with_modes (set_entry r y (entry_of rest l)) m 0) _ room_limit m (omega arith)
      (modes-alters (set_entry r y (entry_of rest l)) m 0) refl refl
