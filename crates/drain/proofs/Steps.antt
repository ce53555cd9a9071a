-- An accepted delivery or hand-back lowers the measure of the table.
use Rattle.std.specs.Prelude.{◌≡◌, refl, ◌≢◌, true, List, [], ◌++◌, eqb}
use Rattle.std.proofs.Common.{ap, subst, append-nil, arith, eqb-true, ne_eqb}
use Rattle.std.proofs.Math.Path.{subst⁻¹}
use Rattle.std.proofs.Math.Logic.{⊎_elim}
use Prim.Native.Nat.{ℕ, ◌<◌}
use Rattle.std.proofs.lemmas.Bool.{eqb-false}
use Rattle.base.specs.Choice.{by-test}
use Rattle.base.specs.Tests.{or-use}
use Rattle.base.specs.Lists.{remove}
use Rattle.room.specs.declared.Room.{Room}
use Rattle.std.specs.Prelude.{Option, Some, None}
use Rattle.table.specs.declared.Table.{Table}
use Rattle.table.specs.declared.Wire.{Wire}
use Rattle.table.specs.declared.Queued.{Queued}
use Rattle.table.specs.Tables.{Answer}
use Rattle.table.specs.declared.Found.{Found}
use Rattle.table.specs.Tables.{room_at, queue_of, messages_of, answer}
use Rattle.table.specs.Oldest.{oldest_of}
use Rattle.rules.specs.declared.Event.{Event}
use Rattle.rules.specs.Events.{HANDBACK, DELIVER, is_hand_back, is_deliver}
use Rattle.rules.specs.Refusals.{refusal}
use Rattle.rules.specs.Work.{Work, work_at}
use Rattle.rules.specs.Rules.{hand_back, receive}
use Rattle.rules.specs.Step.{after, outcome, delivered, made, step_of}
use Rattle.facts.specs.Search.{oldest-low, oldest-there, oldest-first}
use Rattle.facts.specs.Accepted.{Accepted, accepted}
use Rattle.kept.specs.Acts.{now}
use Rattle.kept.specs.After.{rooms-are, queue-is, messages-are}
use Rattle.kept.specs.Start.{same-rooms, Taken, take-oldest}
use Rattle.ledger.proofs.Takes.{Oldest}
use Rattle.measure.specs.Way.{Leads}
use Rattle.measure.specs.Measure.{potential}
use Rattle.safe.specs.Done.{Done}
use Rattle.safe.specs.HandBacks.{hand-back-safe}
use Rattle.safe.specs.Delivers.{receive-safe}
use Rattle.safe.specs.Step.{Safe, made-is, begins, here, shaped, facts, unowned}
use Rattle.drain.specs.Drains.{is_draining}
use Rattle.drain.specs.Lower.{Lower, hand-back-lower}
use Rattle.drain.specs.Delivers.{receive-lower}

-- the measure of a table by some heights
abbrev pub weight_of : Table → (ℕ → ℕ) → ℕ
weight_of t height = potential t.n (room_at t) (queue_of t) (messages_of t) 0 height

abbrev pub LeadsIn : Table → (ℕ → ℕ) → Type 0
LeadsIn t height = Leads t.n (room_at t) (messages_of t) height

-- a table with heights by which it weighs less than b
pub record Lighter (b : ℕ) (t : Table) : Type 0 where
  pub height : ℕ → ℕ
  pub leads : LeadsIn t height
  pub less : weight_of t height < b

module _ (n : ℕ) (t : Table) (s : Safe n t) (height : ℕ → ℕ) (leads : LeadsIn t height) where
  -- what is done, as the table after it has it
  module _ (kept : List Wire) (w : Work) (d : Done t.n (room_at t) kept w) where
    abbrev next : Table
    next = after t kept w

    -- what holds of the rooms, the queue and the messages of the work holds of those of the table
    carried : (P : (ℕ → Room) → List Queued → List Wire → Type 0) → P (now (room_at t) w) w.queue (kept ++ w.sent)
        → P (room_at next) (queue_of next) (messages_of next)
    carried P p =
        subst (λ (f : ℕ → Room). P f (queue_of next) (messages_of next)) (rooms-are t (shaped n t s) (facts n t s) kept w d.whole)
        (subst⁻¹ (λ (q : List Queued). P (now (room_at t) w) q (messages_of next)) (queue-is t (shaped n t s) (facts n t s) kept w d.whole)
        (subst⁻¹ (P (now (room_at t) w) w.queue) (messages-are t (shaped n t s) (facts n t s) kept w d.whole) p))

    pub led-after : (h : ℕ → ℕ) → Leads t.n (now (room_at t) w) (kept ++ w.sent) h → LeadsIn (outcome t kept w).table h
    unfolding after
    led-after h l =
        subst⁻¹ (λ (r : Answer). LeadsIn r.table h) (made-is n t s kept w d) (carried (λ f q m. Leads t.n f m h) l)

    lighter-after : (b : ℕ) → Lower t.n (room_at t) kept b w → Lighter b (outcome t kept w).table
    unfolding after
    lighter-after b l =
        record {
          height = l.height;
          leads = led-after l.height l.leads;
          less =
              subst⁻¹ (λ (r : Answer). weight_of r.table l.height < b) (made-is n t s kept w d)
              (carried (λ f q m. potential t.n f q m 0 l.height < b) l.less);
        }

  -- room x before it has done anything
  started : (P : (ℕ → Room) → List Wire → Type 0) (x : ℕ) → P (room_at t) (messages_of t) → P (now (room_at t) (work_at t x)) (messages_of t ++ [])
  started P x p =
      subst⁻¹ (P (now (room_at t) (work_at t x))) (append-nil (messages_of t))
      (subst⁻¹ (λ (f : ℕ → Room). P f (messages_of t)) (same-rooms t (shaped n t s) (facts n t s) (unowned n t s) x) p)

  pub led-here : (x : ℕ) → Leads t.n (now (room_at t) (work_at t x)) (messages_of t ++ []) height
  led-here x = started (λ f m. Leads t.n f m height) x leads

  weight-here : (x : ℕ) → potential t.n (now (room_at t) (work_at t x)) (queue_of t) (messages_of t ++ []) 0 height ≡ weight_of t height
  weight-here x = started (λ f m. potential t.n f (queue_of t) m 0 height ≡ weight_of t height) x refl

  -- HANDBACK
  handed-lighter : (x : ℕ) → x < t.n → (room_at t x).wanted ≡ 0 → (room_at t x).held ≢ 0
      → Lighter (weight_of t height) (outcome t (messages_of t) (hand_back (work_at t x))).table
  handed-lighter x low idle holds =
      lighter-after (messages_of t) (hand_back (work_at t x))
      (hand-back-safe t.n (room_at t) (messages_of t) (work_at t x) (begins n t s x low) idle) (weight_of t height)
      (subst (λ (b : ℕ). Lower t.n (room_at t) (messages_of t) b (hand_back (work_at t x))) (weight-here x)
      (hand-back-lower t.n (room_at t) (messages_of t) (work_at t x) (begins n t s x low) idle holds height (led-here x)))

  -- DELIVER
  delivered-lighter : (a b : ℕ) (r : Option Found) → oldest_of t a b ≡ r → oldest_of t a b ≢ None → Lighter (weight_of t height) (delivered t a b r).table
  unfolding delivered
  delivered-lighter a b None h z = absurd (z h)
  delivered-lighter a b (Some found) h z =
      lighter-after (remove found.place (messages_of t)) (receive (work_at t b) a found.message)
      (receive-safe t.n (room_at t) (messages_of t) b (room_at t b) (queue_of t) (here n t s b) found.place a found.message at taken.right taken.at) (weight_of t height)
      (subst (λ (c : ℕ). Lower t.n (room_at t) (remove found.place (messages_of t)) c (receive (work_at t b) a found.message)) weight
      (receive-lower t.n (room_at t) (messages_of t) b (room_at t b) (queue_of t) (here n t s b) found.place a taken.at.low height
      (subst⁻¹ (λ (f : ℕ → Room). Leads t.n f (messages_of t) height) same leads) found.message at taken.right taken.at))
    where
      taken : Taken t (shaped n t s) (facts n t s) (unowned n t s) a b found.place found.message
      taken = take-oldest t (shaped n t s) (facts n t s) (unowned n t s) a b found.place found.message h

      same : now (room_at t) (work_at t b) ≡ room_at t
      same = same-rooms t (shaped n t s) (facts n t s) (unowned n t s) b

      weight : potential t.n (now (room_at t) (work_at t b)) (queue_of t) (messages_of t) 0 height ≡ weight_of t height
      weight = ap (λ (f : ℕ → Room). potential t.n f (queue_of t) (messages_of t) 0 height) same

      at : Oldest (messages_of t) found.place a b found.message
      at = record { low = oldest-low t a b found.place found.message h; there = oldest-there t a b found.place found.message h; first = oldest-first t a b found.place found.message h }

  -- an accepted delivery or hand-back lowers the measure
  pub drains-lower : (e : Event) → is_draining e ≡ true → refusal t e ≡ 0 → Lighter (weight_of t height) (step_of t e).table
  unfolding step_of made is_draining
  drains-lower e draining r =
      by-test (λ (a : Answer). Lighter (weight_of t height) a.table) (eqb (refusal t e) 0) (made t e) (answer (refusal t e) t)
      (λ b. ⊎_elim delivers hands (or-use (is_deliver e) (is_hand_back e) draining)) (λ b. absurd (eqb-false _ _ b r))
    where
      a : Accepted t e
      a = accepted t e r

      delivers : is_deliver e ≡ true → Lighter (weight_of t height) (made t e).table
      delivers k =
          rw (eqb-true e.kind DELIVER k)
          (delivered-lighter e.room e.other (oldest_of t e.room e.other) refl (a.found k))

      hands : is_hand_back e ≡ true → Lighter (weight_of t height) (made t e).table
      hands k =
          let kind : e.kind ≡ HANDBACK = eqb-true e.kind HANDBACK k in
          rw kind (handed-lighter e.room a.low (a.idle (ne_eqb e.kind DELIVER (λ z. omega arith))) (a.had k))
