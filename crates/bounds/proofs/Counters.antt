-- COUNTERS is kept by each change, with so many names in hand.
use Rattle.std.specs.Prelude.{◌≡◌, refl, ◌≢◌, ◌⊎◌, Bool, List, [], ◌∷◌, ◌++◌, ℕ, ◌+◌, ◌≤◌, ◌<◌, ltb, length, get_or}
use Rattle.std.proofs.Common.{◌∙◌, ap, inl, inr, length-append, ltb-false}
use native.Mathlib.Omega.{arith}
use Rattle.base.specs.Choice.{by-test}
use Rattle.base.specs.Sums.{same?}
use Rattle.base.specs.Lists.{remove}
use Rattle.std.specs.Prelude.{Option}
use Rattle.room.specs.declared.Room.{Room}
use Rattle.room.specs.Limits.{last_link}
use Rattle.room.specs.Record.{with_modes, with_debt, lender_of}
use Rattle.room.specs.Owned.{owned}
use Rattle.room.specs.Rules.{next_link, lent_to, left, remaining, passed_to, credited, tokened_by, reduced}
use Rattle.table.specs.declared.Wire.{Wire}
use Rattle.table.specs.declared.Queued.{Queued}
use Rattle.table.specs.declared.Message.TheVariants as msg
use Rattle.table.specs.Tables.{no_wire}
use Rattle.rules.specs.Limits.{worn_limit}
use Rattle.facts.specs.Wires.{wire, leaving_sent}
use Rattle.facts.specs.Names.{is_request}
use Rattle.facts.specs.Cases.{passed-either, credited-either, reduced-either, lifted-either}
use Rattle.bounds.specs.Bounds.{Counters}
use Rattle.bounds.proofs.Weights.{requests, requests-sent, requests-taken, requests-leaving}

-- Changes of the queue and of the messages: the rooms are as they were.
module _ (n : ℕ) (rooms : ℕ → Room) (queue : List Queued) (messages : List Wire) (hand : ℕ) where
  -- a name in hand is let go
  pub counters-dropped : Counters n rooms queue messages (hand + 1) → Counters n rooms queue messages hand
  counters-dropped before c h = omega (arith, before c h)

  pub counters-request-taken : (k a b o m : ℕ) (idle : Bool) → k < length messages → get_or messages k no_wire ≡ wire a b (msg.Request o m idle)
      → Counters n rooms queue messages hand → Counters n rooms queue (remove k messages) (hand + 1)
  unfolding is_request
  counters-request-taken k a b o m idle inside there before c h = omega (
    arith,
    before c h,
    requests-taken messages k a b (msg.Request o m idle) inside there,
  )

  pub counters-request-sent : (a b o m : ℕ) (idle : Bool)
      → Counters n rooms queue messages (hand + 1) → Counters n rooms queue (messages ++ (wire a b (msg.Request o m idle) ∷ [])) hand
  unfolding is_request
  counters-request-sent a b o m idle before c h = omega (arith, before c h, requests-sent messages a b (msg.Request o m idle))

  -- the head of the queue is taken off
  pub counters-head-taken : (q : Queued) → Counters n rooms (q ∷ queue) messages hand → Counters n rooms queue messages (hand + 1)
  counters-head-taken q before c h = omega (arith, before c h)

  -- a room joins the end of the queue
  pub counters-joined : (q : Queued) → Counters n rooms queue messages (hand + 1) → Counters n rooms (queue ++ (q ∷ [])) messages hand
  counters-joined q before c h = omega (arith, before c h, length-append queue (q ∷ []))

-- the counter after a loan or a pass
next_le : (k : ℕ) → next_link k ≤ k + 1
unfolding next_link
next_le k =
    by-test (λ (j : ℕ). j ≤ k + 1) (ltb k last_link) (k + 1) last_link (λ e. omega arith) (λ e. omega (arith, ltb-false k last_link e))

passed-counter : (r : Room) (y : ℕ) → (passed_to r y).counter ≡ next_link r.counter
unfolding left
passed-counter r y = passed-either r y (λ (s : Room). s.counter ≡ next_link r.counter) (λ e. refl) (λ e. refl)

-- the counter after a settling, and after a REDUCE
credited-counter : (r : Room) (m : ℕ) → (credited r m).counter ≡ r.counter
credited-counter r m = credited-either r m (λ (s : Room). s.counter ≡ r.counter) (λ e. refl) (λ e. refl)

reduced-counter : (r : Room) (a l m : ℕ) → (reduced r a l m).counter ≡ r.counter
reduced-counter r a l m = reduced-either r a l m (λ (s : Room). s.counter ≡ r.counter) (λ e. refl) (λ e. refl)

-- Changes of one room's record.
module _ (n : ℕ) (old new : ℕ → Room) (messages : List Wire) (me : ℕ) (low : me < n) (others : (c : ℕ) → c ≢ me → new c ≡ old c)
    (queue : List Queued) (hand : ℕ) where
  -- the bound is shown of the changed room, and the others have it where there are no more names
  each : (after : List Wire) (had : ℕ) → requests after + hand ≤ requests messages + had → Counters n old queue messages had
      → (new me).counter + (length queue + requests after + hand) < worn_limit + n → Counters n new queue after hand
  each after had fewer before own c h = go (same? c me)
    where
      go : (c ≡ me) ⊎ (c ≢ me) → (new c).counter + (length queue + requests after + hand) < worn_limit + n
      go (inl e) = rw e own
      go (inr e) = omega (arith, before c h, ap (λ (r : Room). r.counter) (others c e))

  -- the changed room keeps its counter
  kept : (after : List Wire) → requests after ≤ requests messages → (new me).counter ≡ (old me).counter
      → Counters n old queue messages hand → Counters n new queue after hand
  kept after fewer same before = each after hand (omega arith) before (omega (arith, same, before me low))

  -- the changed room takes a link number, and puts down a name for it
  linked : (after : List Wire) → requests after ≤ requests messages → (new me).counter ≡ next_link (old me).counter
      → Counters n old queue messages (hand + 1) → Counters n new queue after hand
  linked after fewer next before =
      each after (hand + 1) (omega arith) before (omega (arith, next, next_le (old me).counter, before me low))

  pub counters-modes : (h v : ℕ) → new me ≡ with_modes (old me) h v → Counters n old queue messages hand → Counters n new queue messages hand
  counters-modes h v here = kept messages (omega arith) (ap (λ (r : Room). r.counter) here)

  pub counters-lend : (y m : ℕ) → new me ≡ lent_to (old me) y m → Counters n old queue messages (hand + 1)
      → Counters n new queue (messages ++ (wire me y (msg.Grant m (next_link (old me).counter)) ∷ [])) hand
  unfolding lent_to is_request
  counters-lend y m here =
      linked (messages ++ (wire me y (msg.Grant m (next_link (old me).counter)) ∷ []))
      (omega (arith, requests-sent messages me y (msg.Grant m (next_link (old me).counter))))
      (ap (λ (r : Room). r.counter) here)

  pub counters-pass : (y m : ℕ) → new me ≡ passed_to (old me) y → Counters n old queue messages (hand + 1)
      → Counters n new queue (messages ++ (wire me y (msg.Token m (remaining (old me) y) (next_link (old me).counter)) ∷ [])) hand
  unfolding is_request
  counters-pass y m here =
      linked (messages ++ (wire me y (msg.Token m (remaining (old me) y) (next_link (old me).counter)) ∷ []))
      (omega (arith, requests-sent messages me y (msg.Token m (remaining (old me) y) (next_link (old me).counter))))
      (ap (λ (r : Room). r.counter) here ∙ passed-counter (old me) y)

  pub counters-settle : new me ≡ credited (old me) (owned (old me)) → Counters n old queue messages hand
      → Counters n new queue (messages ++ (wire me (lender_of (old me)) (msg.Reduce (old me).link (owned (old me))) ∷ [])) hand
  unfolding is_request
  counters-settle here =
      kept (messages ++ (wire me (lender_of (old me)) (msg.Reduce (old me).link (owned (old me))) ∷ []))
      (omega (arith, requests-sent messages me (lender_of (old me)) (msg.Reduce (old me).link (owned (old me)))))
      (ap (λ (r : Room). r.counter) here ∙ credited-counter (old me) (owned (old me)))

  pub counters-grant : (k a m l : ℕ) (lender : Option ℕ) → k < length messages → get_or messages k no_wire ≡ wire a me (msg.Grant m l)
      → new me ≡ with_debt (with_modes (old me) m 0) lender m l
      → Counters n old queue messages hand → Counters n new queue (remove k messages ++ leaving_sent me (old me) a) hand
  counters-grant k a m l lender inside there here =
      kept (remove k messages ++ leaving_sent me (old me) a)
      (omega (arith, requests-taken messages k a me (msg.Grant m l) inside there, requests-leaving (remove k messages) me (old me) a))
      (ap (λ (r : Room). r.counter) here)

  -- the counter is lifted to a number that the sender's counter has reached
  pub counters-token : (k a m rest l : ℕ) → k < length messages → get_or messages k no_wire ≡ wire a me (msg.Token m rest l)
      → a < n → l ≤ (old a).counter → new me ≡ tokened_by (old me) me a m rest l
      → Counters n old queue messages hand → Counters n new queue (remove k messages ++ leaving_sent me (old me) a) hand
  unfolding tokened_by
  counters-token k a m rest l inside there sender reached here before =
      each (remove k messages ++ leaving_sent me (old me) a) hand (omega (arith, fewer)) before
      (rw (ap (λ (r : Room). r.counter) here)
      (lifted-either (old me).counter l (λ (j : ℕ). j + (length queue + requests (remove k messages ++ leaving_sent me (old me) a) + hand) < worn_limit + n)
      (λ h. omega (arith, fewer, before a sender)) (λ h. omega (arith, fewer, before me low))))
    where
      fewer : requests (remove k messages ++ leaving_sent me (old me) a) ≤ requests messages
      fewer = omega (arith, requests-taken messages k a me (msg.Token m rest l) inside there, requests-leaving (remove k messages) me (old me) a)

  pub counters-reduce : (k a l m : ℕ) → k < length messages → get_or messages k no_wire ≡ wire a me (msg.Reduce l m)
      → new me ≡ reduced (old me) a l m → Counters n old queue messages hand → Counters n new queue (remove k messages) hand
  counters-reduce k a l m inside there here =
      kept (remove k messages) (omega (arith, requests-taken messages k a me (msg.Reduce l m) inside there))
      (ap (λ (r : Room). r.counter) here ∙ reduced-counter (old me) a l m)
