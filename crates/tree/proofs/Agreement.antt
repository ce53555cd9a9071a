-- Agreement: the modes that two rooms hold agree.
use Rattle.std.specs.Prelude.{◌≡◌, ◌⊎◌, ◌≢◌, true, List, ℕ, ◌≤◌, ◌<◌}
use Rattle.std.proofs.Math.Path.{sym, ap}
use Rattle.std.proofs.Common.{◌∙◌, ⊎_elim, arith}
use Rattle.std.proofs.Math.Logic.{inl, inr}
use Rattle.base.specs.Sums.{same?}
use Rattle.base.specs.Lists.{Mem}
use Rattle.modes.specs.Modes.{agrees}
use Rattle.modes.specs.Under.{under, small}
use Rattle.modes.proofs.Laws.{agrees-sym, none-agrees, under-agree, agrees-under, under-trans, under-small-agree}
use Rattle.room.specs.declared.Room.{Room}
use Rattle.room.specs.Limits.{room_limit}
use Rattle.room.specs.Record.{entry_at}
use Rattle.room.specs.Owned.{owned}
use Rattle.table.specs.declared.Wire.{Wire}
use Rattle.table.specs.declared.Message.TheVariants as msg
use Rattle.table.specs.Formed.{is_token, tokens}
use Rattle.facts.specs.Rooms.{RoomFacts}
use Rattle.ledger.specs.Loans.{Ledger}
use Rattle.owning.specs.Parts.{part}
use Rattle.owning.specs.Clauses.{Exact, Small, Pairs, Fits}
use Rattle.owning.proofs.Owned.{part-entry, part_held, held-under, none-held}
use Rattle.tree.specs.Tree.{Tree}
use Rattle.tree.proofs.Folds.{TokenOn}
use Rattle.tree.proofs.Root.{token-sole, rooted}
use Rattle.tree.proofs.Dominance.{Pool, Dominated, dominance}

-- what remains to the sender is the same in equal TOKENs
rest-same : (w v : Wire) (m rest l k other j : ℕ) → w ≡ v → w.message ≡ msg.Token m rest l → v.message ≡ msg.Token k other j → rest ≡ other
rest-same w v m rest l k other j e p q = inside (sym p ∙ ap (λ (w : Wire). w.message) e ∙ q)
  where
    inside : msg.Token m rest l ≡ msg.Token k other j → rest ≡ other
    inside h = cc

module _ (n : ℕ) (rooms : ℕ → Room) (messages : List Wire) (facts : (c : ℕ) → c < n → RoomFacts n c (rooms c)) (modes : Small n rooms messages)
    (pairs : Pairs n rooms messages) (sole : tokens n rooms messages ≤ 1) (r : ℕ) (r-low : r < n) where
  -- a mode that the root answers for agrees with what the root holds
  pool-held : (m : ℕ) → Pool rooms messages r m → agrees m (rooms r).held ≡ true
  pool-held m (inl (j, h, e)) =
      ap (λ (k : ℕ). agrees k (rooms r).held) (e ∙ sym (part-entry (rooms r) j h))
      ∙ ap (agrees (part (rooms r) j)) (sym (part_held (rooms r)))
      ∙ pairs.room r r-low j room_limit (omega arith) (omega arith) (λ q. omega arith)
  pool-held m (inr (a, t)) =
      ap (agrees m) (sym (part_held (rooms r)) ∙ ap (λ (c : ℕ). part (rooms c) room_limit) (sym t.receiver))
      ∙ pairs.rest t.wire t.member t.mode m t.link t.is room_limit (omega arith)

  -- a TOKEN's remaining mode agrees with each entry of its receiver
  rest-entry : (m a : ℕ) → TokenOn messages a r m → (j : ℕ) → j < room_limit → agrees m (entry_at (rooms r) j).mode ≡ true
  rest-entry m a t j h =
      ap (agrees m) (sym (part-entry (rooms r) j h) ∙ ap (λ (c : ℕ). part (rooms c) j) (sym t.receiver))
      ∙ pairs.rest t.wire t.member t.mode m t.link t.is j (omega arith)

  -- two modes of the pool are one small mode, or agree
  pool-two : (m k : ℕ) → Pool rooms messages r m → Pool rooms messages r k → ((m ≡ k) × (small m ≡ true)) ⊎ (agrees m k ≡ true)
  unfolding is_token
  pool-two m k (inl (i, h, e)) (inl (j, l, f)) = at (same? i j)
    where
      at : (i ≡ j) ⊎ (i ≢ j) → ((m ≡ k) × (small m ≡ true)) ⊎ (agrees m k ≡ true)
      at (inl q) = inl (e ∙ ap (λ (i : ℕ). (entry_at (rooms r) i).mode) q ∙ sym f, ap small e ∙ modes.entry r i r-low h)
      at (inr q) =
          inr
          (ap (λ (z : ℕ). agrees z k) (e ∙ sym (part-entry (rooms r) i h))
          ∙ ap (agrees (part (rooms r) i)) (f ∙ sym (part-entry (rooms r) j l))
          ∙ pairs.room r r-low i j (omega arith) (omega arith) q)
  pool-two m k (inl (i, h, e)) (inr (a, t)) = inr (ap (λ (z : ℕ). agrees z k) e ∙ agrees-sym _ k ∙ rest-entry k a t i h)
  pool-two m k (inr (a, t)) (inl (j, l, f)) = inr (ap (agrees m) f ∙ rest-entry m a t j l)
  pool-two m k (inr (a, t)) (inr (b, s)) =
      inl (
        rest-same t.wire s.wire t.mode m t.link s.mode k s.link
            (token-sole n rooms messages sole t.wire s.wire t.member s.member (ap is_token t.is) (ap is_token s.is)) t.is s.is,
        modes.rest t.wire t.member t.mode m t.link t.is,
      )

  -- so what is under one agrees with what is under the other
  pool-under : (m k : ℕ) → Pool rooms messages r m → Pool rooms messages r k → (x y : ℕ) → under x m ≡ true → under y k ≡ true
      → agrees x y ≡ true
  pool-under m k p q x y u v =
      ⊎_elim
      (λ e. under-small-agree x y m e.1 u (ap (under y) e.0 ∙ v))
      (λ g. agrees-under y k x v (under-agree x m k u g))
      (pool-two m k p q)

  module _ (every : (c : ℕ) → c < n → c ≢ r → Dominated rooms messages r c) where
    -- what another room holds is none, or under a mode of the pool
    held-pool : (c : ℕ) → c < n → c ≢ r → ((rooms c).held ≡ 0) ⊎ ((m : ℕ) × Pool rooms messages r m × (under (rooms c).held m ≡ true))
    held-pool c low other =
        ⊎_elim
        (λ z. inl (none-held (rooms c) z))
        (λ k. inr (k.0, k.1, under-trans (rooms c).held (owned (rooms c)) k.0 (held-under (rooms c) (pairs.room c low)) k.2))
        (every c low other)

    -- none agrees with what any room holds
    held_none : (c d : ℕ) → d < n → (rooms c).held ≡ 0 → agrees (rooms c).held (rooms d).held ≡ true
    held_none c d low z =
        ap (λ (m : ℕ). agrees m (rooms d).held) z ∙ none-agrees (rooms d).held (omega (arith, (facts d low).held-code))

    -- another room and the root
    held-root : (c : ℕ) → c < n → c ≢ r → agrees (rooms c).held (rooms r).held ≡ true
    held-root c low other =
        ⊎_elim
        (held_none c r r-low)
        (λ k. under-agree (rooms c).held k.0 (rooms r).held k.2 (pool-held k.0 k.1))
        (held-pool c low other)

    -- two other rooms
    held-others : (c d : ℕ) → c < n → d < n → c ≢ r → d ≢ r → agrees (rooms c).held (rooms d).held ≡ true
    held-others c d c-low d-low p q =
        ⊎_elim
        (held_none c d d-low)
        (λ k. ⊎_elim
        (λ z. agrees-sym (rooms c).held (rooms d).held ∙ held_none d c c-low z)
        (λ l. pool-under k.0 l.0 k.1 l.1 (rooms c).held (rooms d).held k.2 l.2)
        (held-pool d d-low q))
        (held-pool c c-low p)

    held-agree : (c d : ℕ) → c < n → d < n → c ≢ d → agrees (rooms c).held (rooms d).held ≡ true
    held-agree c d c-low d-low ne = go (same? c r) (same? d r)
      where
        go : (c ≡ r) ⊎ (c ≢ r) → (d ≡ r) ⊎ (d ≢ r) → agrees (rooms c).held (rooms d).held ≡ true
        go (inl p) (inl q) = absurd (ne (p ∙ sym q))
        go (inl p) (inr q) = agrees-sym (rooms c).held (rooms d).held ∙ ap (λ (c : ℕ). agrees (rooms d).held (rooms c).held) p ∙ held-root d d-low q
        go (inr p) (inl q) = ap (λ (d : ℕ). agrees (rooms c).held (rooms d).held) q ∙ held-root c c-low p
        go (inr p) (inr q) = held-others c d c-low d-low p q

-- the modes that two rooms hold agree
pub agreement : (n : ℕ) (rooms : ℕ → Room) (messages : List Wire) → n ≤ room_limit → ((c : ℕ) → c < n → RoomFacts n c (rooms c))
    → Ledger n rooms messages → Exact n rooms → Small n rooms messages → Pairs n rooms messages → Fits rooms messages → Tree n rooms messages
    → tokens n rooms messages ≡ 1 → ((w : Wire) → Mem w messages → w.to < n)
    → (c d : ℕ) → c < n → d < n → c ≢ d → agrees (rooms c).held (rooms d).held ≡ true
agreement n rooms messages limit facts ledger exact modes pairs fits tree sole low c d =
    let root = rooted n rooms messages sole low in
    held-agree n rooms messages facts modes pairs (omega arith) root.0 root.1
    (dominance n rooms messages limit facts ledger exact modes pairs fits tree root.0 root.2) c d
