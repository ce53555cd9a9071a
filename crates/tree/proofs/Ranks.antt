-- Two ways to rank anew: a room becomes the lowest of all, or a room without children is put above another.
use Rattle.std.specs.Prelude.{◌≡◌, refl, ◌⊎◌, ◌≢◌, true, List, ℕ, suc, ◌<◌, eqb, if◌then◌else◌}
use Rattle.std.proofs.Common.{◌∙◌, ap, inl, inr, arith, eq-eqb, ne_eqb}
use Rattle.base.specs.Lists.{Mem}
use Rattle.base.specs.Ranks.{rerooted, rerooted-root, rerooted-falls}
use Rattle.std.specs.Prelude.{Some, None}
use Rattle.room.specs.Record.{lender_of}
use Rattle.room.specs.declared.Room.{Room}
use Rattle.room.proofs.Lenders.{lends-other}
use Rattle.table.specs.declared.Wire.{Wire}
use Rattle.tree.specs.Tree.{NoTokenTo, is_grant, Tree}
use Rattle.tree.proofs.Frames.{GrantsIn}

-- y gets one more than b
attached : (ℕ → ℕ) → ℕ → ℕ → ℕ → ℕ
attached rank y b c = if eqb c y then suc (rank b) else rank c

module _ (rank : ℕ → ℕ) (y b : ℕ) where
  attached-at : attached rank y b y ≡ suc (rank b)
  unfolding attached
  attached-at = simp (eq-eqb y y refl)

  attached-other : (c : ℕ) → c ≢ y → attached rank y b c ≡ rank c
  unfolding attached
  attached-other c ne = simp (ne_eqb c y ne)

  -- y is above b
  attached-new : b ≢ y → attached rank y b b < attached rank y b y
  attached-new ne = omega (arith, attached-at, attached-other b ne)

  -- the others are as they were
  attached-falls : (p c : ℕ) → p ≢ y → c ≢ y → rank p < rank c → attached rank y b p < attached rank y b c
  attached-falls p c pn cn h = omega (arith, attached-other p pn, attached-other c cn)

-- Ranks of rooms and messages that have changed
module _ (n : ℕ) (old new : ℕ → Room) (messages after : List Wire) (t : Tree n old messages) where
  -- the same ranks: each lender that a room still has, and each GRANT, is of before
  pub tree-less : ((c : ℕ) → c < n → (new c).lender ≢ None → NoTokenTo c after → ((new c).lender ≡ (old c).lender) × NoTokenTo c messages)
      → GrantsIn after messages → Tree n new after
  tree-less lenders grants =
      record {
        rank = t.rank;
        lender =
            λ c low some untold.
            let k = lenders c low some untold in
            rw k.0 (t.lender c low (λ e. some (k.0 ∙ e)) k.1);
        grant = λ w member is. t.grant w (grants w member is) is;
      }

  -- r as the lowest: it has no lender and gets no GRANT, and what is new is lent by it
  pub tree-rerooted : (r : ℕ)
      → ((c : ℕ) → c < n → (new c).lender ≢ None → NoTokenTo c after
      → (c ≢ r) × (((new c).lender ≡ Some r) ⊎ (((new c).lender ≡ (old c).lender) × NoTokenTo c messages)))
      → ((w : Wire) → Mem w after → is_grant w.message ≡ true → (w.to ≢ r) × ((w.«from» ≡ r) ⊎ Mem w messages))
      → Tree n new after
  tree-rerooted r lenders grants =
      record {
        rank = rerooted r t.rank;
        lender = λ c low some untold. by-lender c low some (lenders c low some untold).0 (lenders c low some untold).1;
        grant = λ w member is. by-grant w is (grants w member is).0 (grants w member is).1;
      }
    where
      by-lender : (c : ℕ) → c < n → (new c).lender ≢ None → c ≢ r
          → ((new c).lender ≡ Some r) ⊎ (((new c).lender ≡ (old c).lender) × NoTokenTo c messages)
          → rerooted r t.rank (lender_of (new c)) < rerooted r t.rank c
      by-lender c low some ne (inl e) = rw e (rerooted-root r t.rank c ne)
      by-lender c low some ne (inr (e, untold)) =
          rw e (rerooted-falls r t.rank (lender_of (old c)) c ne (t.lender c low (λ k. some (e ∙ k)) untold))

      by-grant : (w : Wire) → is_grant w.message ≡ true → w.to ≢ r → (w.«from» ≡ r) ⊎ Mem w messages
          → rerooted r t.rank w.«from» < rerooted r t.rank w.to
      by-grant w is ne (inl e) = omega (arith, ap (rerooted r t.rank) e, rerooted-root r t.rank w.to ne)
      by-grant w is ne (inr member) = rerooted-falls r t.rank w.«from» w.to ne (t.grant w member is)

  -- y above b: y has no lender, lends nothing, and gets no GRANT but of b
  pub tree-attached : (y b : ℕ) → b ≢ y
      → ((c : ℕ) → c < n → (new c).lender ≢ None → NoTokenTo c after
      → (c ≢ y) × ((new c).lender ≢ Some y) × ((new c).lender ≡ (old c).lender) × NoTokenTo c messages)
      → ((w : Wire) → Mem w after → is_grant w.message ≡ true
      → ((w.«from» ≡ b) × (w.to ≡ y)) ⊎ ((w.«from» ≢ y) × (w.to ≢ y) × Mem w messages))
      → Tree n new after
  tree-attached y b ne lenders grants =
      record {
        rank = attached t.rank y b;
        lender =
            λ c low some untold.
            let k = lenders c low some untold in
            attached-falls t.rank y b (lender_of (new c)) c (lends-other (new c) y some k.1) k.0 (rw k.2 (t.lender c low (λ e. some (k.2 ∙ e)) k.3));
        grant = λ w member is. by-grant w is (grants w member is);
      }
    where
      by-grant : (w : Wire) → is_grant w.message ≡ true
          → ((w.«from» ≡ b) × (w.to ≡ y)) ⊎ ((w.«from» ≢ y) × (w.to ≢ y) × Mem w messages)
          → attached t.rank y b w.«from» < attached t.rank y b w.to
      by-grant w is (inl (e, f)) = omega (arith, attached-new t.rank y b ne, ap (attached t.rank y b) e, ap (attached t.rank y b) f)
      by-grant w is (inr (p, q, member)) = attached-falls t.rank y b w.«from» w.to p q (t.grant w member is)
