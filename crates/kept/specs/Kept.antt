-- "From a fresh table no accepted step makes an ill-formed one": every accepted step keeps well-formedness, together with
-- "no REQUEST was begun by a room that has the token"; and a refused step leaves the table.
use Rattle.std.specs.Prelude.{◌≡◌, true, List, [], ◌∷◌, ◌++◌, ℕ, ltb, eqb, length}
use Rattle.std.proofs.Math.Path.{refl, subst⁻¹}
use Rattle.std.proofs.Common.{arith, eqb-true}
use Rattle.std.proofs.lemmas.Bool.{eqb-false}
use Rattle.base.specs.Choice.{by-test, split}
use Rattle.base.specs.Lists.{remove}
use Rattle.std.specs.Prelude.{Option, Some, None}
use Rattle.table.specs.declared.Table.{Table}
use Rattle.table.specs.declared.Wire.{Wire}
use Rattle.table.specs.Tables.{Answer}
use Rattle.table.specs.declared.Found.{Found}
use Rattle.table.specs.Limits.{wire_limit}
use Rattle.table.specs.Tables.{room_at, messages_of, answer}
use Rattle.table.specs.Oldest.{oldest_of}
use Rattle.table.specs.Formed.{well_formed}
use Rattle.rules.specs.declared.Event.{Event}
use Rattle.rules.specs.Work.{Work, work_at}
use Rattle.rules.specs.Rules.{ask, upgrade, hand_back, receive}
use Rattle.rules.specs.Events.{ASK, UPGRADE, HANDBACK, is_ask, is_upgrade, is_hand_back}
use Rattle.rules.specs.Refusals.{refusal}
use Rattle.rules.specs.Step.{outcome, delivered, made, step_of, runs}
use Rattle.facts.specs.Shapes.{Shaped}
use Rattle.facts.specs.Whole.{WellFormed, facts-of}
use Rattle.kept.specs.Moment.{NoOwnRequest}
use Rattle.kept.specs.Acts.{Whole}
use Rattle.kept.specs.Asks.{ask-kept, upgrade-kept, hand-back-kept}
use Rattle.kept.specs.Delivers.{receive-kept}
use Rattle.kept.specs.Start.{start, take-oldest}
use Rattle.kept.specs.After.{Lawful, outcome-lawful}
use Rattle.facts.specs.Accepted.{Accepted, accepted, kind-idle}

-- an answer that, if it is 0, has a lawful table
abbrev Fine : Answer → Type 0
Fine r = r.«number» ≡ 0 → Lawful r.table

module _ (t : Table) (s : Shaped t) (f : WellFormed t) (u : NoOwnRequest (room_at t) (messages_of t)) where
  delivered-fine : (a b : ℕ) (r : Option Found) → oldest_of t a b ≡ r → Fine (delivered t a b r)
  unfolding delivered
  delivered-fine a b None h z = absurd (omega arith)
  delivered-fine a b (Some found) h z =
      let taken = take-oldest t s f u a b found.place found.message h in
      outcome-lawful t s f (remove found.place (messages_of t)) (receive (work_at t b) a found.message)
      (receive-kept t.n (room_at t) (remove found.place (messages_of t)) (work_at t b) a found.message taken.right taken.at) z

  made-fine : (e : Event) → Accepted t e → Fine (made t e)
  unfolding made
  made-fine e a =
      by-test Fine (is_ask e) _ _
      (λ k. outcome-lawful t s f (messages_of t) (ask (work_at t e.room) e.mode)
      (ask-kept t.n (room_at t) (messages_of t) (work_at t e.room) begin (kind-idle t e a ASK (eqb-true _ _ k) (omega arith)) (a.free k) e.mode (a.some k) (a.code k))) λ k.
      by-test Fine (is_upgrade e) _ _
      (λ k. outcome-lawful t s f (messages_of t) (upgrade (work_at t e.room))
      (upgrade-kept t.n (room_at t) (messages_of t) (work_at t e.room) begin (kind-idle t e a UPGRADE (eqb-true _ _ k) (omega arith)) (a.holds k))) λ k.
      by-test Fine (is_hand_back e) _ _
      (λ k. outcome-lawful t s f (messages_of t) (hand_back (work_at t e.room))
      (hand-back-kept t.n (room_at t) (messages_of t) (work_at t e.room) begin (kind-idle t e a HANDBACK (eqb-true _ _ k) (omega arith)))) λ k.
      delivered-fine e.room e.other (oldest_of t e.room e.other) refl
    where
      begin : Whole t.n (room_at t) (messages_of t) (work_at t e.room)
      begin = start t s f u e.room a.low

pub kept : (t : Table) (e : Event) → Shaped t → well_formed t ≡ true → NoOwnRequest (room_at t) (messages_of t) → (step_of t e).«number» ≡ 0
    → (well_formed (step_of t e).table ≡ true) × NoOwnRequest (room_at (step_of t e).table) (messages_of (step_of t e).table) × Shaped (step_of t e).table
unfolding step_of
kept t e s w u =
    by-test Fine (eqb (refusal t e) 0) (made t e) (answer (refusal t e) t)
    (λ r. made-fine t s (facts-of t s w) u e (accepted t e (eqb-true _ _ r)))
    (λ r z. absurd (eqb-false _ _ r z))

-- "All but 0 return the table as it came."
module _ (t : Table) where
  abbrev Stays : Answer → Type 0
  Stays r = (r.«number» ≡ 0 → ⊥) → r.table ≡ t

  outcome-stays : (kept : List Wire) (w : Work) → Stays (outcome t kept w)
  unfolding outcome
  outcome-stays kept w =
      by-test Stays w.worn _ _ (λ e h. refl) λ e.
      by-test Stays (ltb wire_limit (length (kept ++ w.sent))) _ _ (λ l h. refl) (λ l h. absurd (h refl))

  delivered-stays : (a b : ℕ) (r : Option Found) → Stays (delivered t a b r)
  unfolding delivered
  delivered-stays a b None = λ h. refl
  delivered-stays a b (Some found) = outcome-stays (remove found.place (messages_of t)) (receive (work_at t b) a found.message)

  made-stays : (e : Event) → Stays (made t e)
  unfolding made
  made-stays e =
      by-test Stays (is_ask e) _ _ (λ k. outcome-stays (messages_of t) (ask (work_at t e.room) e.mode)) λ k.
      by-test Stays (is_upgrade e) _ _ (λ k. outcome-stays (messages_of t) (upgrade (work_at t e.room))) λ k.
      by-test Stays (is_hand_back e) _ _ (λ k. outcome-stays (messages_of t) (hand_back (work_at t e.room))) λ k.
      delivered-stays e.room e.other (oldest_of t e.room e.other)

  pub refused-stays : (e : Event) → ((step_of t e).«number» ≡ 0 → ⊥) → (step_of t e).table ≡ t
  unfolding step_of
  refused-stays e = by-test Stays (eqb (refusal t e) 0) (made t e) (answer (refusal t e) t) (λ r. made-stays e) (λ r h. refl)

-- So every step, accepted or refused, leads from a lawful table to a lawful one.
pub step-lawful : (t : Table) (e : Event) → Lawful t → Lawful (step_of t e).table
step-lawful t e l =
    split (eqb (step_of t e).«number» 0)
    (λ z. kept t e l.2 l.0 l.1 (eqb-true _ _ z))
    (λ z. subst⁻¹ Lawful (refused-stays t e (eqb-false _ _ z)) l)

-- "From a fresh table no accepted step makes an ill-formed one", over any list of events
pub runs-lawful : (es : List Event) (t : Table) → Lawful t → Lawful (runs t es)
unfolding runs
runs-lawful [] t l = l
runs-lawful (e ∷ es) t l = runs-lawful es (step_of t e).table (step-lawful t e l)
