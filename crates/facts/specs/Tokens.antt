-- Counting the tokens: where there is at most one, a room that has it has it alone, and none is under way beside it.
use Rattle.std.specs.Prelude.{◌≡◌, ◌≢◌, ◌⊎◌, true, false, List, ℕ, ◌≤◌, ◌<◌}
use Rattle.std.proofs.Math.Path.{ap}
use Rattle.std.proofs.Math.Logic.{inl, inr, ⊎_elim}
use native.Mathlib.Omega.{arith}
use Rattle.base.specs.Choice.{split}
use Rattle.base.specs.Tests.{clash}
use Rattle.base.specs.Below.{some_or_none}
use Rattle.base.specs.Sums.{one, sum-at, sum_bound, sum-two}
use Rattle.base.specs.Lists.{Mem, count, count-found, mem-total}
use Rattle.room.specs.declared.Room.{Room}
use Rattle.table.specs.declared.Wire.{Wire}
use Rattle.table.specs.Formed.{is_token, tokens}

module _ (n : ℕ) (rooms : ℕ → Room) (messages : List Wire) where
  -- none is counted: no room has the token, and no TOKEN is under way
  module _ (gone : tokens n rooms messages ≡ 0) where
    pub gone-tokenless : (x : ℕ) → x < n → (rooms x).token ≡ false
    unfolding tokens
    gone-tokenless x h =
        split (rooms x).token (λ t. absurd (omega (arith, sum-at n (λ c. one (rooms c).token) x h, ap one t))) (λ t. t)

    pub gone-quiet : (w : Wire) → Mem w messages → is_token w.message ≡ false
    unfolding tokens
    gone-quiet w m =
        split (is_token w.message) (λ t. absurd (omega (arith, mem-total (λ w. one (is_token w.message)) m, ap one t))) (λ t. t)

  -- some are counted: a room has the token, or a TOKEN is under way
  pub token-somewhere : 1 ≤ tokens n rooms messages
      → ((c : ℕ) × (c < n) × ((rooms c).token ≡ true)) ⊎ ((w : Wire) × Mem w messages × (is_token w.message ≡ true))
  unfolding tokens
  token-somewhere some = ⊎_elim inl (λ none. inr (count-found (λ w. is_token w.message) messages (carried none))) (some_or_none n (λ c. (rooms c).token))
    where
      carried : ((c : ℕ) → c < n → (rooms c).token ≡ false) → 1 ≤ count (λ w. is_token w.message) messages
      carried none = omega (arith, sum_bound n 0 (λ c. one (rooms c).token) (λ c h. omega (arith, ap one (none c h))))

  -- at most one is counted
  module _ (sole : tokens n rooms messages ≤ 1) where
    -- while a room has the token no other has it,
    pub holder-alone : (x : ℕ) → x < n → (rooms x).token ≡ true → (c : ℕ) → c < n → c ≢ x → (rooms c).token ≡ false
    unfolding tokens
    holder-alone x low with c h other =
        split (rooms c).token
        (λ t. absurd (omega (arith, sum-two n (λ c. one (rooms c).token) c x h low other, ap one t, ap one with)))
        (λ t. t)

    -- and no TOKEN is under way
    pub holder-quiet : (x : ℕ) → x < n → (rooms x).token ≡ true → (w : Wire) → Mem w messages → is_token w.message ≡ false
    unfolding tokens
    holder-quiet x low with w m =
        split (is_token w.message)
        (λ t. absurd (omega (
          arith,
          mem-total (λ w. one (is_token w.message)) m,
          ap one t,
          sum-at n (λ c. one (rooms c).token) x low,
          ap one with,
        )))
        (λ t. t)

    -- while a TOKEN is under way no room has the token
    pub carried-tokenless : (w : Wire) → Mem w messages → is_token w.message ≡ true → (c : ℕ) → c < n → (rooms c).token ≡ false
    carried-tokenless w m is c h = split (rooms c).token (λ t. clash is (holder-quiet c h t w m)) (λ t. t)
