-- The step with its rules left open, and without the test of well-formedness. With document 01's rules no table that events lead to from a
-- fresh one fails it; with other rules a table may fail it, and is worked on all the same.
use Rattle.std.specs.Prelude.{ℕ, true, List, [], ◌∷◌, eqb, if◌then◌else◌}
use Rattle.base.specs.Lists.{remove}
use Rattle.std.specs.Prelude.{Option, Some, None}
use Rattle.table.specs.declared.Table.{Table}
use Rattle.table.specs.Tables.{Answer}
use Rattle.table.specs.declared.Found.{Found}
use Rattle.table.specs.declared.Message.{Message}
use Rattle.table.specs.Numbers.{DONE, EMPTY}
use Rattle.table.specs.Tables.{messages_of, answer}
use Rattle.table.specs.Oldest.{oldest_of}
use Rattle.rules.specs.declared.Event.{Event}
use Rattle.rules.specs.Work.{Work, work_at}
use Rattle.rules.specs.Rules.{upgrade}
use Rattle.rules.specs.Events.{is_ask, is_upgrade, is_hand_back}
use Rattle.rules.specs.Refusals.{refusal_as}
use Rattle.rules.specs.Step.{outcome}

-- what a room does with an event that is not refused; an upgrade is as the rules have it
pub record Rules : Type 0 where
  pub asks : Work → ℕ → Work
  pub hands_back : Work → Work
  pub receives : Work → ℕ → Message → Work

module _ (r : Rules) where
  unfoldable pub delivered_by : Table → ℕ → ℕ → Option Found → Answer
  delivered_by t a b None = answer EMPTY t
  delivered_by t a b (Some found) = outcome t (remove found.place (messages_of t)) (r.receives (work_at t b) a found.message)

  unfoldable pub made_by : Table → Event → Answer
  made_by t e =
      if is_ask e then outcome t (messages_of t) (r.asks (work_at t e.room) e.mode)
      else (if is_upgrade e then outcome t (messages_of t) (upgrade (work_at t e.room))
      else (if is_hand_back e then outcome t (messages_of t) (r.hands_back (work_at t e.room))
      else delivered_by t e.room e.other (oldest_of t e.room e.other)))

  unfoldable pub step_by : Table → Event → Answer
  step_by t e =
      let refusal = refusal_as true t e in
      if eqb refusal DONE then made_by t e else answer refusal t

  unfoldable pub runs_by : Table → List Event → Table
  runs_by t [] = t
  runs_by t (e ∷ es) = runs_by (step_by t e).table es
