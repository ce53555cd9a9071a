-- Where the rules put in are document 01's, the step is its step.
use Rattle.std.specs.Prelude.{◌≡◌, true, ℕ}
use Rattle.std.proofs.Math.Path.{refl, ap}
use Rattle.base.specs.Lists.{remove}
use Rattle.std.specs.Prelude.{Option, Some, None}
use Rattle.table.specs.declared.Table.{Table}
use Rattle.table.specs.declared.Message.{Message}
use Rattle.table.specs.declared.Found.{Found}
use Rattle.table.specs.Tables.{messages_of}
use Rattle.table.specs.Oldest.{oldest_of}
use Rattle.table.specs.Formed.{well_formed}
use Rattle.rules.specs.declared.Event.{Event}
use Rattle.rules.specs.Work.{Work, work_at}
use Rattle.rules.specs.Rules.{ask, hand_back, receive}
use Rattle.rules.specs.Refusals.{refusal, refusal_as}
use Rattle.rules.specs.Step.{outcome, delivered, made, step_of}
use Rattle.variants.specs.Step.{Rules, delivered_by, made_by, step_by}

pub record Right (r : Rules) : Type 0 where
  pub asks-right : (w : Work) (m : ℕ) → r.asks w m ≡ ask w m
  pub hands-back-right : (w : Work) → r.hands_back w ≡ hand_back w
  pub receives-right : (w : Work) (a : ℕ) (m : Message) → r.receives w a m ≡ receive w a m

module _ (r : Rules) (same : Right r) where
  same-delivered : (t : Table) (a b : ℕ) (f : Option Found) → delivered_by r t a b f ≡ delivered t a b f
  unfolding delivered_by delivered
  same-delivered t a b None = refl
  same-delivered t a b (Some found) = ap (outcome t (remove found.place (messages_of t))) (same.receives-right (work_at t b) a found.message)

  -- whatever the table
  pub same-made : (t : Table) (e : Event) → made_by r t e ≡ made t e
  unfolding made_by made
  same-made t e =
      rw (
        same.asks-right (work_at t e.room) e.mode,
        same.hands-back-right (work_at t e.room),
        same-delivered t e.room e.other (oldest_of t e.room e.other),
      ) refl

  -- where the test that is left out is passed
  pub same_step : (t : Table) (e : Event) → well_formed t ≡ true → step_by r t e ≡ step_of t e
  unfolding step_by step_of refusal refusal_as
  same_step t e formed = rw (formed, same-made t e) refl
