-- How large the measure can be with heights below n: 2n² + 4n and the number of messages.
use Rattle.std.specs.Prelude.{◌≡◌, refl, Bool, true, false, List, [], ◌∷◌, ℕ, ◌+◌, ◌*◌, ◌-◌, ◌≤◌, ◌<◌, ltb, length}
use Rattle.std.proofs.Common.{ap, ⊎_elim, mul-add, add-mul, mul_left_comm}
use mathlib.Core.List.Memᴰ
use Rattle.std.proofs.Math.Nat.{mul-le-mul_right}
use native.Mathlib.Omega.{arith}
use Rattle.base.specs.Sums.{same?, one, one-le, sum-le, sum-add, sum_bound, count_below}
use Rattle.base.specs.Lists.{total, count, Mem}
use Rattle.room.specs.declared.Room.{Room}
use Rattle.table.specs.declared.Wire.{Wire}
use Rattle.table.specs.declared.Queued.{Queued}
use Rattle.table.specs.declared.Message.{Message}
use Rattle.table.specs.declared.Message.TheVariants as msg
use Rattle.table.specs.Formed.{is_token, due, names}
use Rattle.facts.specs.Due.{due-held}
use Rattle.facts.specs.Moments.{Formed}
use Rattle.facts.specs.Names.{is_naming, is_request, names-sum}
use Rattle.bounds.specs.Bounds.{level}
use Rattle.bounds.proofs.Weights.{requests, level-le}
use Rattle.measure.specs.Measure.{pending, tokens_in, charge, follow, hold_weight, above, extra, pile, nothing, own, load, potential}

-- how many messages name a room
abbrev naming : List Wire → ℕ
naming messages = count (λ w. is_naming w.message) messages

-- how many rooms hold
abbrev holding : ℕ → (ℕ → Room) → ℕ
holding n rooms = count_below n (λ c. ltb 0 (rooms c).held)

-- a REQUEST and a TOKEN name rooms
kinds : (m : Message) → one (is_request m) + one (is_token m) ≤ one (is_naming m)
unfolding is_request is_token is_naming
kinds msg.Nothing = omega arith
kinds (msg.Request o m idle) = omega arith
kinds (msg.Grant m l) = omega arith
kinds (msg.Token m rest l) = omega arith
kinds (msg.Reduce l m) = omega arith

kinds-all : (l : List Wire) → requests l + tokens_in l ≤ naming l
unfolding total
kinds-all [] = omega arith
kinds-all (w ∷ l) = omega (arith, kinds w.message, kinds-all l)

-- a message costs 1; if it names a room 3 more; a REQUEST instead of those as much as `cap` says
charge-most : (share more cap : ℕ) (m : Message) → share + more ≤ cap + 1
    → charge share more m + 3 * one (is_request m) ≤ one (is_request m) * cap + 1 + 3 * one (is_naming m)
unfolding charge is_request is_naming
charge-most share more cap msg.Nothing h = omega arith
charge-most share more cap (msg.Request o m idle) h = omega arith
charge-most share more cap (msg.Grant m l) h = omega arith
charge-most share more cap (msg.Token m rest l) h = omega arith
charge-most share more cap (msg.Reduce l m) h = omega arith

pile-most : (height : ℕ → ℕ) (share flag cap : ℕ) (behind : Wire → Bool) (l : List Wire)
    → ((w : Wire) → Mem w l → share + (height w.to + flag) ≤ cap + 1)
    → pile height share flag behind l + 3 * requests l ≤ requests l * cap + length l + 3 * naming l
unfolding pile total above
pile-most height share flag cap behind [] h = omega arith
pile-most height share flag cap behind (w ∷ l) h = omega (
  arith,
  charge-most share (extra height flag behind w) cap w.message (most (behind w)),
  pile-most height share flag cap (follow behind w) l (λ v i. h v (Memᴰ.tail i)),
  add-mul (one (is_request w.message)) (requests l) cap,
)
  where
    most : (b : Bool) → share + above b (height w.to) flag ≤ cap + 1
    most true = omega (arith, h w (Memᴰ.head refl))
    most false = omega (arith, h w (Memᴰ.head refl))

-- the largest cost of a REQUEST but for 1, n times
square : (n : ℕ) → 1 ≤ n → n * (2 * n - 2) + 2 * n ≡ 2 * (n * n)
square n some = omega (
  arith,
  mul-add n (2 * n - 2) 2,
  ap (λ (k : ℕ). n * k) whole,
  mul_left_comm n 2 n,
)
  where
    whole : 2 * n - 2 + 2 ≡ 2 * n
    whole = omega arith

-- a room that holds waits for nothing, but perhaps an upgrade
idle-held : (r : Room) → one (ltb 0 (due r)) + one (ltb 0 r.held) ≤ 1
idle-held r =
    ⊎_elim
    (λ e. omega (arith, one-le (ltb 0 (due r)), ap (λ (h : ℕ). one (ltb 0 h)) e))
    (λ e. omega (arith, one-le (ltb 0 r.held), ap (λ (d : ℕ). one (ltb 0 d)) (due-held r e)))
    (same? r.held 0)

module _ (n : ℕ) (some : 1 ≤ n) (rooms : ℕ → Room) (queue : List Queued) (messages : List Wire) (f : Formed n rooms queue messages)
    (height : ℕ → ℕ) (below : (c : ℕ) → c < n → height c < n) where
  -- so the names and the rooms that hold are at most n together
  names-holding : length queue + naming messages + holding n rooms ≤ n
  names-holding = omega (
    arith,
    names-sum n rooms queue messages f,
    sum-add n (names queue messages) (λ c. one (ltb 0 (rooms c).held)),
    sum_bound n 1 (λ c. names queue messages c + one (ltb 0 (rooms c).held)) (λ c h. omega (arith, f.named c h, idle-held (rooms c))),
  )

  -- with nothing in hand
  pub potential-bound : potential n rooms queue messages 0 height ≤ 2 * (n * n) + 4 * n + length messages
  unfolding potential load own
  potential-bound = omega (
    arith,
    names-holding,
    pile-most height (pending queue messages 0) (tokens_in messages) (2 * n - 2) nothing messages most,
    mul-le-mul_right (2 * n - 2) few,
    square n some,
    kinds-all messages,
    sum-add n (λ c. hold_weight * one (ltb 0 (rooms c).held)) (λ c. level (rooms c).credit),
    sum-le n (λ c. hold_weight * one (ltb 0 (rooms c).held)) (λ c. one (ltb 0 (rooms c).held)) (λ c h. omega arith),
    sum_bound n 2 (λ c. level (rooms c).credit) (λ c h. level-le (rooms c).credit),
  )
    where
      few : requests messages ≤ n
      few = omega (arith, kinds-all messages, names-holding)

      most : (w : Wire) → Mem w messages → pending queue messages 0 + (height w.to + tokens_in messages) ≤ 2 * n - 2 + 1
      most w i = omega (arith, names-holding, kinds-all messages, below w.to (f.message w i).to_low)
