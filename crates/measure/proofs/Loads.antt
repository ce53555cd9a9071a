-- What the laws of the measure have in common: the number of TOKENs, the cost of leaving a lender, and the rooms of which one changes.
use Rattle.std.specs.Prelude.{◌≡◌, refl, ◌≢◌, Bool, List, [], ◌∷◌, ◌++◌, ℕ, ◌+◌, ◌≤◌, ◌<◌, length, get_or}
use Rattle.std.proofs.Common.{sym, ◌∙◌, ap}
use native.Mathlib.Omega.{arith}
use Rattle.base.specs.Sums.{one, sum, sum-differ}
use Rattle.base.specs.Lists.{total, remove, total-append, total-snoc, total-remove}
use Rattle.std.specs.Prelude.{None}
use Rattle.room.specs.declared.Room.{Room}
use Rattle.table.specs.declared.Wire.{Wire}
use Rattle.table.specs.declared.Queued.{Queued}
use Rattle.table.specs.declared.Message.{Message}
use Rattle.table.specs.Tables.{no_wire}
use Rattle.table.specs.Formed.{is_token}
use Rattle.facts.specs.Wires.{wire, leaving_sent}
use Rattle.bounds.specs.Bounds.{level}
use Rattle.bounds.proofs.Weights.{level-falls, requests}
use Rattle.facts.specs.Cases.{leaving-either}
use Rattle.measure.specs.Measure.{pending, tokens_in, name_weight, charge, pile, nothing, own, load, potential}
use Rattle.measure.proofs.Piles.{pile-share}

-- the measure, with its number of names and of TOKENs under other terms
pub potential-at : (n : ℕ) (rooms : ℕ → Room) (queue : List Queued) (messages : List Wire) (hand : ℕ) (height : ℕ → ℕ) (names flag : ℕ)
    → pending queue messages hand ≡ names → tokens_in messages ≡ flag → potential n rooms queue messages hand height ≡ load n rooms messages height names flag
unfolding potential
potential-at n rooms queue messages hand height names flag p q =
    ap (λ (k : ℕ). load n rooms messages height k (tokens_in messages)) p ∙ ap (λ (k : ℕ). load n rooms messages height names k) q

-- a name in hand is let go: every REQUEST costs one less
pub potential-dropped : (n : ℕ) (rooms : ℕ → Room) (queue : List Queued) (messages : List Wire) (hand : ℕ) (height : ℕ → ℕ)
    → potential n rooms queue messages (hand + 1) height ≡ potential n rooms queue messages hand height + requests messages + name_weight
unfolding potential load
potential-dropped n rooms queue messages hand height = omega (
  arith,
  potential-at n rooms queue messages (hand + 1) height (names + 1) (tokens_in messages) (omega arith) refl,
  pile-share height names (tokens_in messages) nothing messages,
)
  where
    names : ℕ
    names = pending queue messages hand

-- TOKENs under way: one message more, one less, and what goes to an old lender
module _ (l : List Wire) where
  pub tokens-sent : (a b : ℕ) (m : Message) → tokens_in (l ++ (wire a b m ∷ [])) ≡ tokens_in l + one (is_token m)
  tokens-sent a b m = total-snoc (λ w. one (is_token w.message)) l (wire a b m)

  pub tokens-taken : (k a b : ℕ) (m : Message) → k < length l → get_or l k no_wire ≡ wire a b m → tokens_in (remove k l) + one (is_token m) ≡ tokens_in l
  tokens-taken k a b m inside there = omega (
    arith,
    total-remove (λ w. one (is_token w.message)) l k no_wire inside,
    ap (λ (w : Wire). one (is_token w.message)) there,
  )

  pub tokens-leaving : (me : ℕ) (r : Room) (a : ℕ) → tokens_in (l ++ leaving_sent me r a) ≡ tokens_in l
  unfolding total is_token
  tokens-leaving me r a = omega (
    arith,
    total-append (λ w. one (is_token w.message)) l (leaving_sent me r a),
    leaving-either me r a (λ s. tokens_in s ≡ 0) (omega arith) (λ e. omega arith),
  )

-- a REDUCE to the old lender is paid for by the level of the credit from there
pub leaving-paid : (height : ℕ → ℕ) (share flag : ℕ) (behind : Wire → Bool) (me : ℕ) (r : Room) (a : ℕ) → (r.credit ≡ 0 → r.lender ≡ None)
    → pile height share flag behind (leaving_sent me r a) ≤ level r.credit
unfolding pile charge
leaving-paid height share flag behind me r a free =
    leaving-either me r a (λ s. pile height share flag behind s ≤ level r.credit) (omega arith)
    (λ lent. let some : r.credit ≢ 0 = λ e. lent (free e) in omega (arith, level-falls 0 r.credit (omega arith) (omega arith)))

-- no room but one changes
pub owns : (n : ℕ) (old new : ℕ → Room) (me : ℕ) → me < n → ((c : ℕ) → c ≢ me → new c ≡ old c)
    → sum n (λ c. own (new c)) + own (old me) ≡ sum n (λ c. own (old c)) + own (new me)
owns n old new me low others = sum-differ n (λ c. own (old c)) (λ c. own (new c)) me low (λ c l ne. ap own (sym (others c ne)))
