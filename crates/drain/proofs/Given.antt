-- "each room that waited has been given its mode": in each delivery and hand-back a wanted mode stays, or is held in the table after it.
use Rattle.std.specs.Prelude.{◌≡◌, ◌≢◌, ◌⊎◌, true, List, [], ◌∷◌, ◌++◌, ℕ, ◌<◌, ltb, eqb, length}
use Rattle.std.proofs.Math.Path.{refl, subst⁻¹}
use Rattle.std.proofs.Common.{sym, ◌∙◌, subst, inl, inr, ⊎_elim, eqb-true}
use Rattle.std.proofs.lemmas.Bool.{false≢true}
use Rattle.base.specs.Choice.{by-test}
use Rattle.base.specs.Sums.{same?}
use Rattle.base.specs.Lists.{remove}
use Rattle.room.specs.declared.Room.{Room}
use Rattle.std.specs.Prelude.{Option, Some, None}
use Rattle.table.specs.declared.Table.{Table}
use Rattle.table.specs.declared.Wire.{Wire}
use Rattle.table.specs.Tables.{Answer}
use Rattle.table.specs.declared.Found.{Found}
use Rattle.table.specs.Limits.{wire_limit}
use Rattle.table.specs.Tables.{room_at, messages_of, answer}
use Rattle.table.specs.Oldest.{oldest_of}
use Rattle.rules.specs.declared.Event.{Event}
use Rattle.rules.specs.Events.{ASK, UPGRADE, HANDBACK, is_ask, is_upgrade, is_hand_back}
use Rattle.rules.specs.Refusals.{refusal}
use Rattle.rules.specs.Work.{Work, work_at}
use Rattle.rules.specs.Rules.{hand_back, receive}
use Rattle.rules.specs.Step.{outcome, delivered, made, step_of}
use Rattle.facts.specs.Shapes.{Shaped}
use Rattle.facts.specs.Whole.{WellFormed, facts-of}
use Rattle.facts.specs.Accepted.{Accepted, accepted}
use Rattle.kept.specs.Changed.{changed-same, changed-other}
use Rattle.kept.specs.Moment.{NoOwnRequest}
use Rattle.kept.specs.Acts.{Whole, now}
use Rattle.kept.specs.After.{Lawful, rooms-are}
use Rattle.kept.specs.Asks.{hand-back-kept}
use Rattle.kept.specs.Delivers.{receive-kept}
use Rattle.kept.specs.Start.{start, take-oldest}
use Rattle.safe.specs.Step.{Safe, step-safe}
use Rattle.drain.specs.Drains.{is_draining, drained_by, drained, HeldOnTheWay}
use Rattle.drain.specs.Gets.{Gets, hand-back-got, receive-got}

-- a record that has not changed
unchanged : (r : Room) → Gets r r
unchanged r = record { gets = inl refl }

module _ (t : Table) (l : Lawful t) where
  shaped : Shaped t
  shaped = l.2

  facts : WellFormed t
  facts = facts-of t shaped l.0

  unowned : NoOwnRequest (room_at t) (messages_of t)
  unowned = l.1

  -- in the answer's table every room wants what it wanted, or has been given that mode
  record Gives (r : Answer) : Type 0 where
    each : (c : ℕ) → Gets (room_at t c) (room_at r.table c)

  refused : (k : ℕ) → Gives (answer k t)
  refused k = record { each = λ c. unchanged (room_at t c) }

  module _ (kept : List Wire) (w : Work) (a : Whole t.n (room_at t) kept w) (g : Gets (room_at t w.me) w.room) where
    -- only the record of the room that acts has changed
    changes : (c : ℕ) → Gets (room_at t c) (now (room_at t) w c)
    changes c =
        ⊎_elim
        (λ e. subst⁻¹ (λ (x : ℕ). Gets (room_at t x) (now (room_at t) w x)) e (rw (changed-same (room_at t) w.me w.room) g))
        (λ e. rw (changed-other (room_at t) w.me w.room c e) (unchanged (room_at t c)))
        (same? c w.me)

    -- refused by 10 or 11, or done
    outcome-gives : Gives (outcome t kept w)
    unfolding outcome
    outcome-gives =
        by-test Gives w.worn _ _ (λ e. refused _) λ e.
        by-test Gives (ltb wire_limit (length (kept ++ w.sent))) _ _ (λ f. refused _) λ f.
        record { each = λ c. rw (rooms-are t shaped facts kept w a) at (changes c) }

  -- "DELIVER(a, b) takes the oldest message from a to b"
  delivered-gives : (a b : ℕ) (r : Option Found) → oldest_of t a b ≡ r → Gives (delivered t a b r)
  unfolding delivered
  delivered-gives a b None h = refused _
  delivered-gives a b (Some found) h =
      let taken = take-oldest t shaped facts unowned a b found.place found.message h in
      outcome-gives (remove found.place (messages_of t)) (receive (work_at t b) a found.message)
      (receive-kept t.n (room_at t) (remove found.place (messages_of t)) (work_at t b) a found.message taken.right taken.at)
      (receive-got t.n (room_at t) (remove found.place (messages_of t)) (work_at t b) refl a found.message taken.right taken.at)

  -- "HANDBACK(x)": of a room that does not wait
  hand-back-gives : (x : ℕ) → x < t.n → (room_at t x).wanted ≡ 0 → Gives (outcome t (messages_of t) (hand_back (work_at t x)))
  hand-back-gives x low idle =
      let begin = start t shaped facts unowned x low in
      outcome-gives (messages_of t) (hand_back (work_at t x))
      (hand-back-kept t.n (room_at t) (messages_of t) (work_at t x) begin idle)
      (hand-back-got t.n (room_at t) (messages_of t) (work_at t x) refl begin idle)

  -- an event of these two kinds that no refusal applies to
  made-gives : (e : Event) → is_draining e ≡ true → Accepted t e → Gives (made t e)
  unfolding made is_draining
  made-gives e d a =
      by-test Gives (is_ask e) _ _ (λ k. absurd (false≢true (rw (eqb-true e.kind ASK k) at d))) λ asks.
      by-test Gives (is_upgrade e) _ _ (λ k. absurd (false≢true (rw (eqb-true e.kind UPGRADE k) at d))) λ upgrades.
      by-test Gives (is_hand_back e) _ _
      (λ k. hand-back-gives e.room a.low (a.idle (rw (eqb-true e.kind HANDBACK k) refl))) λ k.
      delivered-gives e.room e.other (oldest_of t e.room e.other) refl

  step_gives : (e : Event) → is_draining e ≡ true → Gives (step_of t e)
  unfolding step_of
  step_gives e d =
      by-test Gives (eqb (refusal t e) 0) (made t e) (answer (refusal t e) t) (λ r. made-gives e d (accepted t e (eqb-true _ _ r))) (λ r. refused _)

-- one delivery or hand-back: a wanted mode stays, or is held in the table after it
pub given-step : (n : ℕ) (t : Table) → Safe n t → (e : Event) → is_draining e ≡ true → (c : ℕ) → c < n → (room_at t c).wanted ≢ 0
    → ((room_at (step_of t e).table c).wanted ≡ (room_at t c).wanted) ⊎ ((room_at (step_of t e).table c).held ≡ (room_at t c).wanted)
given-step n t s e d c low waits = ⊎_elim inl (λ p. inr p.1) ((step_gives t s.lawful e d).each c).gets

-- the same of any event: one that is no delivery or hand-back is passed over
given_by : (n : ℕ) (t : Table) → Safe n t → (e : Event) → (c : ℕ) → c < n → (room_at t c).wanted ≢ 0
    → ((room_at (drained_by t e) c).wanted ≡ (room_at t c).wanted) ⊎ ((room_at (drained_by t e) c).held ≡ (room_at t c).wanted)
unfolding drained_by
given_by n t s e c low waits =
    by-test (λ (v : Table). ((room_at v c).wanted ≡ (room_at t c).wanted) ⊎ ((room_at v c).held ≡ (room_at t c).wanted)) (is_draining e) (step_of t e).table t
    (λ d. given-step n t s e d c low waits) (λ d. inl refl)

-- and so the invariant is kept
pub drained-by-safe : (n : ℕ) (t : Table) → Safe n t → (e : Event) → Safe n (drained_by t e)
unfolding drained_by
drained-by-safe n t s e = by-test (Safe n) (is_draining e) (step_of t e).table t (λ d. step-safe n t s e) (λ d. s)

-- what is held at the outset is held on the way
held_first : (c m : ℕ) (t : Table) (es : List Event) → (room_at t c).held ≡ m → HeldOnTheWay c m t es
unfolding HeldOnTheWay
held_first c m t [] h = h
held_first c m t (e ∷ es) h = inl h

-- "each room that waited has been given its mode", once it waits no more
pub given-way : (n : ℕ) (es : List Event) (t : Table) → Safe n t → (c : ℕ) → c < n → (room_at t c).wanted ≢ 0 → (room_at (drained t es) c).wanted ≡ 0
    → HeldOnTheWay c (room_at t c).wanted t es
unfolding drained HeldOnTheWay
given-way n [] t s c low waits none = absurd (waits none)
given-way n (e ∷ es) t s c low waits none =
    inr (⊎_elim
    (λ k. subst (λ (m : ℕ). HeldOnTheWay c m (drained_by t e) es) k
    (given-way n es (drained_by t e) (drained-by-safe n t s e) c low (λ z. waits (sym k ∙ z)) none))
    (λ h. held_first c (room_at t c).wanted (drained_by t e) es h)
    (given_by n t s e c low waits))
