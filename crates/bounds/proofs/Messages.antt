-- MESSAGES is kept by each change, with so many names in hand.
use Rattle.std.specs.Prelude.{◌≡◌, ◌≢◌, Bool, true, List, [], ◌∷◌, ◌++◌, ℕ, ◌+◌, ◌≤◌, ◌<◌, length, get_or}
use Rattle.std.proofs.Common.{sym, length-append}
use Rattle.std.proofs.Math.Path.{ap}
use native.Mathlib.Omega.{arith}
use Rattle.base.specs.Sums.{sum, sum-differ}
use Rattle.base.specs.Lists.{remove}
use Rattle.modes.specs.Codes.{IR}
use Rattle.modes.specs.Modes.{is_stronger}
use Rattle.modes.proofs.Laws.{stronger-true}
use Rattle.room.specs.declared.Room.{Room}
use Rattle.room.specs.Record.{with_modes, lender_of}
use Rattle.room.specs.Owned.{owned}
use Rattle.room.specs.Rules.{next_link, lent_to, remaining, credited, tokened_by, reduced}
use Rattle.table.specs.declared.Wire.{Wire}
use Rattle.table.specs.declared.Queued.{Queued}
use Rattle.table.specs.declared.Message.TheVariants as msg
use Rattle.table.specs.Tables.{no_wire}
use Rattle.facts.specs.Wires.{wire, leaving_sent}
use Rattle.facts.specs.Cases.{credited-credit, reduced-credit}
use Rattle.bounds.specs.Bounds.{level, weight, Messages}
use Rattle.bounds.proofs.Weights.{level-le, level-none, level-falls, weights-sent, weights-taken, weights-leaving}

-- Changes of the queue and of the messages: the rooms are as they were.
module _ (n : ℕ) (rooms : ℕ → Room) (queue : List Queued) (messages : List Wire) (hand : ℕ) where
  -- a name in hand is let go
  pub messages-dropped : Messages n rooms queue messages (hand + 1) → Messages n rooms queue messages hand
  messages-dropped before = omega (arith, before)

  pub messages-request-taken : (k a b o m : ℕ) (idle : Bool) → k < length messages → get_or messages k no_wire ≡ wire a b (msg.Request o m idle)
      → Messages n rooms queue messages hand → Messages n rooms queue (remove k messages) (hand + 1)
  unfolding weight
  messages-request-taken k a b o m idle inside there before = omega (
    arith,
    before,
    weights-taken messages k a b (msg.Request o m idle) inside there,
  )

  pub messages-request-sent : (a b o m : ℕ) (idle : Bool)
      → Messages n rooms queue messages (hand + 1) → Messages n rooms queue (messages ++ (wire a b (msg.Request o m idle) ∷ [])) hand
  unfolding weight
  messages-request-sent a b o m idle before = omega (arith, before, weights-sent messages a b (msg.Request o m idle))

  -- the head of the queue is taken off
  pub messages-head-taken : (q : Queued) → Messages n rooms (q ∷ queue) messages hand → Messages n rooms queue messages (hand + 1)
  messages-head-taken q before = omega (arith, before)

  -- a room joins the end of the queue
  pub messages-joined : (q : Queued) → Messages n rooms queue messages (hand + 1) → Messages n rooms (queue ++ (q ∷ [])) messages hand
  messages-joined q before = omega (arith, before, length-append queue (q ∷ []))

-- Changes of one room's record.
module _ (n : ℕ) (old new : ℕ → Room) (messages : List Wire) (me : ℕ) (low : me < n) (others : (c : ℕ) → c ≢ me → new c ≡ old c)
    (queue : List Queued) (hand : ℕ) where
  -- no level but that of the changed room changes
  levels : sum n (λ c. level (new c).credit) + level (old me).credit ≡ sum n (λ c. level (old c).credit) + level (new me).credit
  levels =
      sum-differ n (λ c. level (old c).credit) (λ c. level (new c).credit) me low
      (λ j l ne. ap (λ (r : Room). level r.credit) (sym (others j ne)))

  pub messages-modes : (h v : ℕ) → new me ≡ with_modes (old me) h v → Messages n old queue messages hand → Messages n new queue messages hand
  messages-modes h v here before = omega (arith, before, levels, ap (λ (r : Room). level r.credit) here)

  pub messages-lend : (y m : ℕ) → new me ≡ lent_to (old me) y m → Messages n old queue messages (hand + 1)
      → Messages n new queue (messages ++ (wire me y (msg.Grant m (next_link (old me).counter)) ∷ [])) hand
  unfolding lent_to weight
  messages-lend y m here before = omega (
    arith,
    before,
    levels,
    ap (λ (r : Room). level r.credit) here,
    weights-sent messages me y (msg.Grant m (next_link (old me).counter)),
  )

  -- whatever remains; the name in hand pays for it and for the TOKEN
  pub messages-pass : (y m : ℕ) → Messages n old queue messages (hand + 1)
      → Messages n new queue (messages ++ (wire me y (msg.Token m (remaining (old me) y) (next_link (old me).counter)) ∷ [])) hand
  unfolding weight
  messages-pass y m before = omega (
    arith,
    before,
    levels,
    level-le (new me).credit,
    weights-sent messages me y (msg.Token m (remaining (old me) y) (next_link (old me).counter)),
  )

  -- the level that falls pays for the REDUCE
  pub messages-settle : owned (old me) ≤ IR → is_stronger (old me).credit (owned (old me)) ≡ true → new me ≡ credited (old me) (owned (old me))
      → Messages n old queue messages hand
      → Messages n new queue (messages ++ (wire me (lender_of (old me)) (msg.Reduce (old me).link (owned (old me))) ∷ [])) hand
  unfolding weight
  messages-settle small weaker here before = omega (
    arith,
    before,
    levels,
    ap (λ (r : Room). level r.credit) here,
    ap level (credited-credit (old me) (owned (old me))),
    level-falls (owned (old me)) (old me).credit small (stronger-true (old me).credit (owned (old me)) weaker),
    weights-sent messages me (lender_of (old me)) (msg.Reduce (old me).link (owned (old me))),
  )

  -- whatever the loan; the weight of the GRANT pays for it and for a REDUCE to the old lender
  pub messages-grant : (k a m l : ℕ) → k < length messages → get_or messages k no_wire ≡ wire a me (msg.Grant m l)
      → Messages n old queue messages hand → Messages n new queue (remove k messages ++ leaving_sent me (old me) a) hand
  unfolding weight
  messages-grant k a m l inside there before = omega (
    arith,
    before,
    levels,
    level-le (new me).credit,
    weights-taken messages k a me (msg.Grant m l) inside there,
    weights-leaving (remove k messages) me (old me) a,
  )

  pub messages-token : (k a m rest l : ℕ) → k < length messages → get_or messages k no_wire ≡ wire a me (msg.Token m rest l)
      → new me ≡ tokened_by (old me) me a m rest l
      → Messages n old queue messages hand → Messages n new queue (remove k messages ++ leaving_sent me (old me) a) hand
  unfolding weight tokened_by
  messages-token k a m rest l inside there here before = omega (
    arith,
    before,
    levels,
    ap (λ (r : Room). level r.credit) here,
    level-none,
    weights-taken messages k a me (msg.Token m rest l) inside there,
    weights-leaving (remove k messages) me (old me) a,
  )

  pub messages-reduce : (k a l m : ℕ) → k < length messages → get_or messages k no_wire ≡ wire a me (msg.Reduce l m)
      → new me ≡ reduced (old me) a l m → Messages n old queue messages hand → Messages n new queue (remove k messages) hand
  unfolding weight
  messages-reduce k a l m inside there here before = omega (
    arith,
    before,
    levels,
    ap (λ (r : Room). level r.credit) here,
    ap level (reduced-credit (old me) a l m),
    weights-taken messages k a me (msg.Reduce l m) inside there,
  )
