-- Dominance: every room but the root owns nothing, or a mode that is under an entry of the root or under what remains to a TOKEN's sender.
use Rattle.std.specs.Prelude.{◌≡◌, ◌⊎◌, ◌≢◌, true, List, ℕ, zero, suc, ◌≤◌, ◌<◌}
use Rattle.std.proofs.Common.{sym, ◌∙◌, ap, subst, ⊎_elim, arith}
use Rattle.std.proofs.Math.Logic.{inl, inr}
use Rattle.base.specs.Sums.{same?}
use Rattle.base.specs.Tests.{clash}
use Rattle.std.specs.Prelude.{None}
use Rattle.modes.specs.Under.{under}
use Rattle.modes.proofs.Laws.{under-refl, under-trans}
use Rattle.room.specs.declared.Room.{Room}
use Rattle.room.specs.declared.Entry.{Entry}
use Rattle.room.specs.Limits.{room_limit}
use Rattle.room.specs.Record.{entry_at, lender_of}
use Rattle.room.specs.Owned.{owned}
use Rattle.room.proofs.Lenders.{is-lender, lends, lends-other}
use Rattle.table.specs.declared.Wire.{Wire}
use Rattle.table.specs.Formed.{is_token, tokens}
use Rattle.facts.specs.Rooms.{RoomFacts}
use Rattle.facts.specs.Tokens.{holder-quiet}
use Rattle.ledger.specs.Loans.{debt, owed, flushed, Ledger}
use Rattle.owning.specs.Clauses.{Exact, Small, Pairs, Fits}
use Rattle.owning.proofs.Owned.{entry-under}
use Rattle.owning.proofs.Falls.{under_none}
use Rattle.tree.specs.Tree.{Tree}
use Rattle.tree.proofs.Folds.{GrantOn, TokenOn, token-told, owed-by, flushed-by}
use Rattle.tree.proofs.Root.{Root, holder-root}

-- a mode that the root answers for: of an entry, or what remains to the sender of a TOKEN under way to it
abbrev pub Pool : (ℕ → Room) → List Wire → ℕ → ℕ → Type 0
Pool rooms messages r m = ((j : ℕ) × (j < room_limit) × (m ≡ (entry_at (rooms r) j).mode)) ⊎ ((a : ℕ) × TokenOn messages a r m)

-- what a room owns is none, or under a member of the pool
abbrev pub Dominated : (ℕ → Room) → List Wire → ℕ → ℕ → Type 0
Dominated rooms messages r c = (owned (rooms c) ≡ 0) ⊎ ((m : ℕ) × Pool rooms messages r m × (under (owned (rooms c)) m ≡ true))

-- what a room owes to its lender by its record
debt-mode : (r : Room) → r.lender ≢ None → (debt r (lender_of r)).mode ≡ r.credit
unfolding debt
debt-mode r some = simp (is-lender r.lender (lender_of r) (lends r some))

module _ (n : ℕ) (rooms : ℕ → Room) (messages : List Wire) (limit : n ≤ room_limit) (facts : (c : ℕ) → c < n → RoomFacts n c (rooms c))
    (ledger : Ledger n rooms messages) (exact : Exact n rooms) (small : Small n rooms messages) (pairs : Pairs n rooms messages)
    (fits : Fits rooms messages) (tree : Tree n rooms messages) where
  module _ (r : ℕ) (root : Root n rooms messages r) where
    -- what a room owns is under what it owes its lender
    own-owed : (c : ℕ) → c < n → c ≢ r → (rooms c).lender ≢ None → under (owned (rooms c)) (owed rooms messages (lender_of (rooms c)) c).mode ≡ true
    own-owed c low other lent = go (owed-by (lender_of (rooms c)) c (debt (rooms c) (lender_of (rooms c))) messages)
      where
        go : (owed rooms messages (lender_of (rooms c)) c ≡ debt (rooms c) (lender_of (rooms c)))
            ⊎ (GrantOn messages (lender_of (rooms c)) c (owed rooms messages (lender_of (rooms c)) c) ⊎ ((rest : ℕ) × TokenOn messages (lender_of (rooms c)) c rest))
            → under (owned (rooms c)) (owed rooms messages (lender_of (rooms c)) c).mode ≡ true
        go (inl q) =
            ap (λ (m : ℕ). under (owned (rooms c)) m)
            (ap (λ (e : Entry). e.mode) q ∙ debt-mode (rooms c) lent ∙ exact c low (root.tokenless c low other))
            ∙ under-refl (owned (rooms c))
        go (inr (inl g)) =
            ap (λ (x : ℕ). under (owned (rooms x)) (owed rooms messages (lender_of (rooms c)) c).mode) (sym g.receiver)
            ∙ fits g.wire g.member _ _ g.is
        go (inr (inr (rest, t))) = absurd (token-told t (root.untold c low other))

    -- a room that owns something: its lender is dominated, if it is not the root
    module _ (c : ℕ) (low : c < n) (other : c ≢ r) (some : owned (rooms c) ≢ 0)
        (up : (p : ℕ) → p < n → p ≢ r → tree.rank p < tree.rank c → Dominated rooms messages r p) where
      abbrev p : ℕ
      p = lender_of (rooms c)

      lent : (rooms c).lender ≢ None
      lent e = some (sym (exact c low (root.tokenless c low other)) ∙ (facts c low).nobody-none e)

      p-low : p < n
      p-low = (facts c low).lender-low lent

      -- lender and borrower have the loan alike
      own : under (owned (rooms c)) (flushed rooms messages p c).mode ≡ true
      own =
          ap (λ (e : Entry). under (owned (rooms c)) e.mode) (ledger p c p-low low (lends-other (rooms c) c lent (facts c low).lender-other))
          ∙ own-owed c low other lent

      -- the lender has it as an entry
      by-entry : under (flushed rooms messages p c).mode (entry_at (rooms p) c).mode ≡ true → Dominated rooms messages r c
      by-entry u = at (same? p r)
        where
          entry : under (owned (rooms c)) (entry_at (rooms p) c).mode ≡ true
          entry = under-trans _ _ _ own u

          chain : under (owned (rooms c)) (owned (rooms p)) ≡ true
          chain = under-trans _ _ _ entry (entry-under (rooms p) (pairs.room p p-low) c (omega arith))

          step : Dominated rooms messages r p → Dominated rooms messages r c
          step (inl z) = inl (under_none (owned (rooms c)) (rw z at chain))
          step (inr (m, member, v)) = inr (m, member, under-trans _ _ _ chain v)

          at : (p ≡ r) ⊎ (p ≢ r) → Dominated rooms messages r c
          at (inl e) = inr ((entry_at (rooms p) c).mode, inl (c, omega arith, ap (λ (x : ℕ). (entry_at (rooms x) c).mode) e), entry)
          at (inr e) = step (up p p-low e (tree.lender c low lent (root.untold c low other)))

      -- or will have it with the TOKEN, and is the root
      by_token : (rest : ℕ) → TokenOn messages c p rest → under (flushed rooms messages p c).mode rest ≡ true → Dominated rooms messages r c
      by_token rest t u = at (same? p r)
        where
          at : (p ≡ r) ⊎ (p ≢ r) → Dominated rooms messages r c
          at (inl e) = inr (rest, inr (c, subst (λ (x : ℕ). TokenOn messages c x rest) e t), under-trans _ _ _ own u)
          at (inr e) = absurd (token-told t (root.untold p p-low e))

      by-lender : Dominated rooms messages r c
      by-lender =
          ⊎_elim by-entry (λ k. by_token k.0 k.1 k.2) (flushed-by p c (entry_at (rooms p) c) messages small.new)

    below : (k c : ℕ) → c < n → c ≢ r → tree.rank c < k → Dominated rooms messages r c
    below zero c low other h = absurd (omega arith)
    below (suc k) c low other h =
        ⊎_elim (λ q. inl q) (λ q. by-lender c low other q (λ p l ne d. below k p l ne (omega arith))) (same? (owned (rooms c)) 0)

    -- every room but the root
    pub dominance : (c : ℕ) → c < n → c ≢ r → Dominated rooms messages r c
    dominance c low other = below (suc (tree.rank c)) c low other (omega arith)

  -- while room r has the token: every other room's modes are under an entry of it
  pub dominated : tokens n rooms messages ≤ 1 → (r : ℕ) → r < n → (rooms r).token ≡ true → (c : ℕ) → c < n → c ≢ r
      → (owned (rooms c) ≡ 0) ⊎ ((j : ℕ) × (j < room_limit) × (under (owned (rooms c)) (entry_at (rooms r) j).mode ≡ true))
  unfolding is_token
  dominated sole r r-low with c low other = go (dominance r (holder-root n rooms messages sole r r-low with) c low other)
    where
      go : Dominated rooms messages r c → (owned (rooms c) ≡ 0) ⊎ ((j : ℕ) × (j < room_limit) × (under (owned (rooms c)) (entry_at (rooms r) j).mode ≡ true))
      go (inl z) = inl z
      go (inr (m, inl (j, h, e), u)) = inr (j, h, rw (← e) u)
      go (inr (m, inr (a, t), u)) =
          clash (ap is_token t.is) (holder-quiet n rooms messages sole r r-low with t.wire t.member)
