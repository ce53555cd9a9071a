-- Every step keeps the invariant, and no step from a table that has it is refused by 10 or 11 once it is begun.
use Rattle.std.specs.Prelude.{◌≡◌, ◌≢◌, false, List, [], ◌∷◌, ◌++◌, ℕ, ◌≤◌, ◌<◌, eqb, length}
use Rattle.std.proofs.Math.Path.{refl, subst⁻¹}
use Rattle.std.proofs.Common.{append-nil, arith, length-take-le}
use borrow.Author.Tests.{le-ltb, eqb-true, eqb-false}
use Rattle.base.specs.Choice.{by-test, split}
use Rattle.base.specs.Lists.{remove}
use Rattle.std.specs.Prelude.{Option, Some, None}
use Rattle.table.specs.Oldest.{found_at}
use Rattle.table.specs.declared.Table.{Table}
use Rattle.table.specs.declared.Wire.{Wire}
use Rattle.table.specs.Tables.{Answer}
use Rattle.table.specs.declared.Found.{Found}
use Rattle.table.specs.declared.Message.{Message}
use Rattle.table.specs.Limits.{wire_limit}
use Rattle.table.specs.Numbers.{DONE}
use Rattle.table.specs.Tables.{room_at, queue_of, messages_of, answer}
use Rattle.table.specs.Oldest.{oldest_of}
use Rattle.rules.specs.declared.Event.{Event}
use Rattle.rules.specs.Events.{ASK, UPGRADE, HANDBACK, is_ask, is_upgrade, is_hand_back}
use Rattle.rules.specs.Refusals.{refusal}
use Rattle.rules.specs.Work.{Work, work_at}
use Rattle.rules.specs.Rules.{ask, upgrade, hand_back, receive}
use Rattle.rules.specs.Step.{after, outcome, delivered, made, step_of, runs}
use Rattle.facts.specs.Shapes.{Shaped}
use Rattle.facts.specs.Whole.{WellFormed, facts-of}
use Rattle.facts.specs.Search.{oldest-low, oldest-there, oldest-first}
use Rattle.facts.specs.Accepted.{Accepted, accepted, kind-idle, unrefused}
use Rattle.kept.specs.Moment.{NoOwnRequest}
use Rattle.kept.specs.Acts.{now}
use Rattle.kept.specs.After.{Lawful, rooms-are, queue-is, messages-are, after-lawful}
use Rattle.kept.specs.Start.{same-rooms, start, take-oldest}
use Rattle.kept.specs.Kept.{refused-stays}
use Rattle.bounds.proofs.Limits.{messages-fit}
use Rattle.safe.specs.Invariant.{Invariant}
use Rattle.safe.specs.Done.{Done}
use Rattle.safe.specs.Asks.{ask-safe}
use Rattle.safe.specs.Upgrades.{upgrade-safe}
use Rattle.safe.specs.HandBacks.{hand-back-safe}
use Rattle.safe.specs.Delivers.{receive-safe}

-- A table of n rooms that has the invariant, in arrays as long as their types say.
pub record Safe (n : ℕ) (t : Table) : Type 0 where
  pub rooms : t.n ≡ n
  pub lawful : Lawful t
  pub invariant : Invariant t.n (room_at t) (queue_of t) (messages_of t)

-- an answer 0 with such a table
abbrev pub Goes : ℕ → Answer → Type 0
Goes n r = (r.«number» ≡ DONE) × Safe n r.table

-- a refusal leaves the table
pub step-refused : (t : Table) (e : Event) → eqb (refusal t e) 0 ≡ false → (step_of t e).table ≡ t
step-refused t e b = refused-stays t e (λ done. eqb-false _ _ b (unrefused t e done))

module _ (n : ℕ) (t : Table) (s : Safe n t) where
  pub shaped : Shaped t
  shaped = s.lawful.2

  pub facts : WellFormed t
  facts = facts-of t shaped s.lawful.0

  -- what is done leads to the table after it, which has the invariant
  module _ (kept : List Wire) (w : Work) (d : Done t.n (room_at t) kept w) where
    fits : length (kept ++ w.sent) ≤ wire_limit
    fits = messages-fit t.n facts.low (now (room_at t) w) w.queue (kept ++ w.sent) 0 d.invariant.clauses.few

    pub made-is : outcome t kept w ≡ answer DONE (after t kept w)
    unfolding outcome
    made-is = rw (d.unworn, le-ltb wire_limit (length (kept ++ w.sent)) fits) refl

    after-safe : Safe n (after t kept w)
    unfolding after
    after-safe =
        record {
          rooms = s.rooms;
          lawful = after-lawful t shaped facts kept w d.whole fits;
          invariant =
              rw (queue-is t shaped facts kept w d.whole, messages-are t shaped facts kept w d.whole, ← rooms-are t shaped facts kept w d.whole) d.invariant;
        }

    outcome-safe : Goes n (outcome t kept w)
    outcome-safe = subst⁻¹ (Goes n) made-is (refl, after-safe)

  -- room x before it has done anything
  pub unowned : NoOwnRequest (room_at t) (messages_of t)
  unowned = s.lawful.1

  pub here : (x : ℕ) → Invariant t.n (now (room_at t) (work_at t x)) (queue_of t) (messages_of t)
  here x = rw (same-rooms t shaped facts unowned x) s.invariant

  pub begins : (x : ℕ) → x < t.n → Done t.n (room_at t) (messages_of t) (work_at t x)
  begins x low =
      record {
        whole = start t shaped facts unowned x low;
        invariant = rw (append-nil (messages_of t)) (here x);
        unworn = refl;
      }

  -- "DELIVER(a, b) takes the oldest message from a to b"
  pub delivered-safe : (a b k : ℕ) (m : Message) → oldest_of t a b ≡ Some (found_at k m) → Goes n (delivered t a b (Some (found_at k m)))
  unfolding delivered
  delivered-safe a b k m h =
      let taken = take-oldest t shaped facts unowned a b k m h in
      outcome-safe (remove k (messages_of t)) (receive (work_at t b) a m)
      (receive-safe t.n (room_at t) (messages_of t) b (room_at t b) (queue_of t) (here b) k a m
      (record { low = oldest-low t a b k m h; there = oldest-there t a b k m h; first = oldest-first t a b k m h })
      taken.right taken.at)

  found-safe : (a b : ℕ) (r : Option Found) → oldest_of t a b ≡ r → oldest_of t a b ≢ None → Goes n (delivered t a b r)
  found-safe a b None h z = absurd (z h)
  found-safe a b (Some found) h z = delivered-safe a b found.place found.message h

  pub messages-count : length (messages_of t) ≡ t.count
  messages-count = length-take-le t.count t.wires (omega (arith, shaped.wires, facts.count))

  pub made-safe : (e : Event) → Accepted t e → Goes n (made t e)
  unfolding made
  made-safe e a =
      by-test (Goes n) (is_ask e) _ _
      (λ k. outcome-safe (messages_of t) (ask (work_at t e.room) e.mode)
      (ask-safe t.n (room_at t) (messages_of t) (work_at t e.room) begin (kind-idle t e a ASK (eqb-true _ _ k) (omega arith)) (a.free k) e.mode (a.some k) (a.code k)
      (rw (append-nil (messages_of t)) (omega (arith, messages-count, a.few k))) (rw (same-rooms t shaped facts unowned e.room) (a.unworn k)))) λ asks.
      by-test (Goes n) (is_upgrade e) _ _
      (λ k. outcome-safe (messages_of t) (upgrade (work_at t e.room))
      (upgrade-safe t.n (room_at t) (messages_of t) (work_at t e.room) begin (kind-idle t e a UPGRADE (eqb-true _ _ k) (omega arith)) (a.holds k))) λ upgrades.
      by-test (Goes n) (is_hand_back e) _ _
      (λ k. outcome-safe (messages_of t) (hand_back (work_at t e.room))
      (hand-back-safe t.n (room_at t) (messages_of t) (work_at t e.room) begin (kind-idle t e a HANDBACK (eqb-true _ _ k) (omega arith)))) λ k.
      found-safe e.room e.other (oldest_of t e.room e.other) refl (a.found (a.kinds asks upgrades k))
    where
      begin : Done t.n (room_at t) (messages_of t) (work_at t e.room)
      begin = begins e.room a.low

  -- an event that no refusal applies to is accepted, and leads to a table with the invariant
  pub step-goes : (e : Event) → refusal t e ≡ 0 → Goes n (step_of t e)
  unfolding step_of
  step-goes e r = by-test (Goes n) (eqb (refusal t e) 0) (made t e) (answer (refusal t e) t) (λ b. made-safe e (accepted t e r)) (λ b. absurd (eqb-false _ _ b r))

  -- every step, accepted or refused, leads from a table with the invariant to one
  pub step-safe : (e : Event) → Safe n (step_of t e).table
  step-safe e =
      split (eqb (refusal t e) 0)
      (λ b. (step-goes e (eqb-true _ _ b)).1)
      (λ b. subst⁻¹ (Safe n) (step-refused t e b) s)

pub runs-safe : (n : ℕ) (es : List Event) (t : Table) → Safe n t → Safe n (runs t es)
unfolding runs
runs-safe n [] t s = s
runs-safe n (e ∷ es) t s = runs-safe n es (step_of t e).table (step-safe n t s e)
