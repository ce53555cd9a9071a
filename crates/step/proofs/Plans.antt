-- What the plan of a step tells: it is a refusal that the rules give, or work whose outcome is the step.
use mathlib.Core.Path.{◌≡◌, refl, sym, ap, ◌∙◌}
use mathlib.Core.Bool.{true, false}
use Prim.Native.Nat.{ℕ, ◌≤◌}
use native.Mathlib.Omega.{arith}
use lib.Dec.{eqb}
use lib.ListN.{length}
use lib.Seq.{length-take-le}
use borrow.Author.Tests.{eqb-true, eqb-false}
use Rattle.base.specs.Choice.{split}
use Rattle.base.specs.Arrays.{padded}
use Rattle.std.specs.Prelude.{Option, Some, None}
use Rattle.table.specs.declared.Table.{Table}
use Rattle.table.specs.declared.Found.{Found}
use Rattle.table.specs.Limits.{queue_limit, wire_limit}
use Rattle.table.specs.Tables.{no_wire, messages_of, answer}
use Rattle.table.specs.Oldest.{oldest_of}
use Rattle.table.specs.Formed.{well_formed}
use Rattle.facts.specs.Shapes.{Shaped}
use Rattle.facts.specs.Whole.{WellFormed, facts-of}
use Rattle.facts.specs.Search.{oldest-low}
use Rattle.facts.specs.Accepted.{Accepted, accepted}
use Rattle.rules.specs.declared.Event.{Event}
use Rattle.rules.specs.Events.{is_ask, is_upgrade, is_hand_back, is_deliver}
use Rattle.rules.specs.Work.{Work, work_at}
use Rattle.rules.specs.Rules.{ask, upgrade, hand_back, receive}
use Rattle.rules.specs.Refusals.{refusal}
use Rattle.rules.specs.Step.{outcome, delivered, made, step_of}
use Rattle.plan.specs.Plans.{Planned, made_plan, refused_plan, taking, doing, plan_as}
use Rattle.step.specs.Writes.{without, Takes}
use Rattle.step.proofs.Queues.{Grows, ask-grows, upgrade-grows, hand-back-grows, receive-grows}
use Rattle.step.proofs.Places.{queue-fits, asks-place, receive-place}

-- a plan to make the step: the work that was done, and that its outcome is the step
pub record Made (t : Table) (e : Event) (p : Planned) : Type 0 where
  pub me : p.done.me ≡ p.me
  pub few : length p.done.queue ≤ queue_limit
  pub takes : Takes t p.me p.taken
  pub blank : t.wires ≡ padded wire_limit no_wire (messages_of t)
  pub step : outcome t (without t p.taken) p.done ≡ step_of t e

-- a plan for the step on t by e
pub record Plans (t : Table) (e : Event) (p : Planned) : Type 0 where
  pub refused : (p.«number» ≡ 0 → ⊥) → answer p.«number» t ≡ step_of t e
  pub made : p.«number» ≡ 0 → Made t e p

-- what it leads to
pub record Leads (t : Table) (e : Event) (p : Planned) : Type 0 where
  pub refused : (p.«number» ≡ 0 → ⊥) → answer p.«number» t ≡ step_of t e
  pub ends : p.«number» ≡ 0 → outcome t (without t p.taken) p.done ≡ step_of t e

-- whatever the arrays are
module _ (t : Table) (e : Event) where
  refused-leads : (k : ℕ) → refusal t e ≡ k → (k ≡ 0 → ⊥) → Leads t e (refused_plan k)
  unfolding step_of
  refused-leads k h z = record { refused = λ n. sym (simp (h, eqb_no k z)); ends = λ n. absurd (z n) }
    where
      eqb_no : (k : ℕ) → (k ≡ 0 → ⊥) → eqb k 0 ≡ false
      eqb_no k z = split (eqb k 0) (λ q. absurd (z (eqb-true k 0 q))) (λ q. q)

  -- no refusal applies
  module _ (h : refusal t e ≡ 0) where
    steps : made t e ≡ step_of t e
    unfolding step_of
    steps = sym (simp h)

    -- work w of room x, with the message that is taken out, if one is
    leads : (x : ℕ) (taken : Option ℕ) (w : Work) → outcome t (without t taken) w ≡ made t e → Leads t e (made_plan x taken w)
    leads x taken w q = record { refused = λ z. absurd (z refl); ends = λ z. q ∙ steps }

    taking-leads : is_deliver e ≡ true → (r : Option Found) → oldest_of t e.room e.other ≡ r
        → delivered t e.room e.other r ≡ made t e → Leads t e (taking t e.room e.other r)
    unfolding taking delivered
    taking-leads d None o q = absurd ((accepted t e h).found d o)
    taking-leads d (Some found) o q = leads e.other (Some found.place) (receive (work_at t e.other) e.room found.message) q

    doing-leads : Leads t e (doing t e)
    unfolding doing made
    doing-leads =
        split (is_ask e)
        (λ a. rw a (leads e.room None (ask (work_at t e.room) e.mode) (sym (simp a))))
        (λ a. split (is_upgrade e)
        (λ u. rw (a, u) (leads e.room None (upgrade (work_at t e.room)) (sym (simp (a, u)))))
        (λ u. split (is_hand_back e)
        (λ b. rw (a, u, b) (leads e.room None (hand_back (work_at t e.room)) (sym (simp (a, u, b)))))
        (λ b. rw (a, u, b) (taking-leads ((accepted t e h).kinds a u b) (oldest_of t e.room e.other) refl (sym (simp (a, u, b)))))))

  -- the plan, where it is told rightly whether the table is well formed, leads to the step
  pub leads-of : (p : Planned) → p ≡ plan_as (well_formed t) t e → Leads t e p
  unfolding plan_as refusal
  leads-of p q =
      split (eqb (refusal t e) 0)
      (λ z. let same : p ≡ doing t e = q ∙ simp z in rw same (doing-leads (eqb-true _ _ z)))
      (λ z. let same : p ≡ refused_plan (refusal t e) = q ∙ simp z in rw same (refused-leads (refusal t e) refl (λ n. absurd (eqb-false _ _ z n))))

-- what is written for it has its places
record Places (t : Table) (p : Planned) : Type 0 where
  pub me : p.done.me ≡ p.me
  pub few : length p.done.queue ≤ queue_limit
  pub takes : Takes t p.me p.taken
  pub blank : t.wires ≡ padded wire_limit no_wire (messages_of t)

module _ (t : Table) (s : Shaped t) (e : Event) where
  -- no refusal applies
  module _ (h : refusal t e ≡ 0) where
    acts : Accepted t e
    acts = accepted t e h

    facts : WellFormed t
    facts = facts-of t s acts.formed

    places : (x : ℕ) (taken : Option ℕ) → Takes t x taken → (w : Work) (most : ℕ) → Grows most (work_at t x) w → most ≤ queue_limit
        → Places t (made_plan x taken w)
    places x taken k w most g room =
        record { me = g.me; few = omega (arith, g.queue); takes = k; blank = facts.wires-blank }

    -- an event that takes no message out
    own-places : (w : Work) (most : ℕ) → Grows most (work_at t e.room) w → most ≤ queue_limit → Places t (made_plan e.room None w)
    own-places w most g room =
        places e.room None
        (record { low = tt; count = facts.count; acts = omega (arith, acts.low, facts.low) })
        w most g room

    -- a delivery
    taking-places : is_deliver e ≡ true → (r : Option Found) → oldest_of t e.room e.other ≡ r → Places t (taking t e.room e.other r)
    unfolding taking
    taking-places d None o = absurd (acts.found d o)
    taking-places d (Some found) o =
        let place = oldest-low t e.room e.other found.place found.message o in
        let all = length-take-le t.count t.wires (omega (arith, facts.count, s.wires)) in
        let w = receive (work_at t e.other) e.room found.message in
        places e.other (Some found.place)
        (record { low = omega arith; count = facts.count; acts = omega (arith, acts.near d, facts.low) })
        w _ (receive-grows (work_at t e.other) e.room found.message) (receive-place t s acts.formed e.room e.other found.place found.message o)

    doing-places : Places t (doing t e)
    unfolding doing
    doing-places =
        split (is_ask e)
        (λ a. rw a (own-places (ask (work_at t e.room) e.mode) _ (ask-grows (work_at t e.room) e.mode)
        (omega (arith, asks-place t s acts.formed e.room acts.low (acts.idle (other a))))))
        (λ a. split (is_upgrade e)
        (λ u. rw (a, u) (own-places (upgrade (work_at t e.room)) _ (upgrade-grows (work_at t e.room)) (queue-fits t s acts.formed)))
        (λ u. split (is_hand_back e)
        (λ b. rw (a, u, b) (own-places (hand_back (work_at t e.room)) _ (hand-back-grows (work_at t e.room)) (queue-fits t s acts.formed)))
        (λ b. rw (a, u, b) (taking-places (acts.kinds a u b) (oldest_of t e.room e.other) refl))))
      where
        -- an ASK is no DELIVER
        other : is_ask e ≡ true → is_deliver e ≡ false
        other a = rw (eqb-true e.kind 0 a)

  places-of : (p : Planned) → p ≡ plan_as (well_formed t) t e → p.«number» ≡ 0 → Places t p
  unfolding plan_as refusal
  places-of p q n =
      split (eqb (refusal t e) 0)
      (λ z. let same : p ≡ doing t e = q ∙ simp z in rw same (doing-places (eqb-true _ _ z)))
      (λ z. let same : p ≡ refused_plan (refusal t e) = q ∙ simp z in absurd (eqb-false _ _ z (sym (ap (λ (x : Planned). x.«number») same) ∙ n)))

  -- the plan, where it is told rightly whether the table is well formed, is one for the step
  pub plans-of : (p : Planned) → p ≡ plan_as (well_formed t) t e → Plans t e p
  plans-of p q =
      let l = leads-of t e p q in
      record {
        refused = l.refused;
        made = λ z. let m = places-of p q z in record { me = m.me; few = m.few; takes = m.takes; blank = m.blank; step = l.ends z };
      }
