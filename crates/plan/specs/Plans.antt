-- A step as it is planned: a refusal, or what a room has done and which message it took.
use Rattle.std.specs.Prelude.{ℕ, ◌≤◌, ◌<◌, ◌≡◌, Bool, false, ◌&&◌, List, [], leb, eqb, if◌then◌else◌, Option, Some, None, Result, Ok, Err}
use Rattle.room.specs.declared.Room.{Room}
use Rattle.room.specs.Limits.{room_limit}
use Rattle.room.specs.Record.{blank_room}
use Rattle.table.specs.declared.Queued.{Queued}
use Rattle.table.specs.declared.Table.{Table}
use Rattle.table.specs.declared.Found.{Found}
use Rattle.table.specs.declared.refusal.Refusal.{Refusal}
use Rattle.table.specs.Numbers.{DONE, EMPTY, number_of}
use Rattle.table.specs.Oldest.{oldest_of}
use Rattle.table.specs.Limits.{wire_limit}
use Rattle.rules.specs.declared.Event.{Event}
use Rattle.rules.specs.Events.{is_ask, is_upgrade, is_hand_back}
use Rattle.rules.specs.Work.{Work, work_at}
use Rattle.rules.specs.Rules.{ask, upgrade, hand_back, receive}
use Rattle.rules.specs.Refusals.{refusal_as}
use Rattle.act.specs.declared.Start.{Start}

-- a room before it acts, and the queue
abbrev pub start_at : ℕ → Room → List Queued → ℕ → Start
start_at me room queue queued = record { me = me; room = room; queue = queue; queued = queued }

-- a plan, with the number that it is refused with
pub record Planned : Type 0 where
  pub «number» : ℕ
  pub me : ℕ
  pub taken : Option ℕ
  pub done : Work

-- a plan that is made, as its readers see it
pub record Making : Type 0 where
  pub me : ℕ
  pub taken : Option ℕ
  pub done : Work

abbrev pub made_plan : ℕ → Option ℕ → Work → Planned
made_plan me taken done = record { «number» = DONE; me = me; taken = taken; done = done }

-- nothing done
abbrev pub idle : Work
idle = record { me = 0; room = blank_room; queue = []; sent = []; worn = false }

abbrev pub refused_plan : ℕ → Planned
refused_plan k = record { «number» = k; me = 0; taken = None; done = idle }

-- a plan that is made
abbrev pub made_of : Making → Planned
made_of p = made_plan p.me p.taken p.done

-- what a result says
abbrev pub planned_in : Result Making Refusal → Planned
planned_in (Ok p) = made_of p
planned_in (Err refusal) = refused_plan (number_of refusal)

-- the oldest message is taken out, and the receiver acts on it
unfoldable pub taking : Table → ℕ → ℕ → Option Found → Planned
taking t a b None = refused_plan EMPTY
taking t a b (Some found) = made_plan b (Some found.place) (receive (work_at t b) a found.message)

-- what is done where no refusal applies: the other events take no message out
unfoldable pub doing : Table → Event → Planned
doing t e =
    if is_ask e then made_plan e.room None (ask (work_at t e.room) e.mode)
    else (if is_upgrade e then made_plan e.room None (upgrade (work_at t e.room))
    else (if is_hand_back e then made_plan e.room None (hand_back (work_at t e.room))
    else taking t e.room e.other (oldest_of t e.room e.other)))

-- the arrays have a place for each room and each message that is in use
unfoldable pub placed : Table → Bool
placed t = leb t.n room_limit && leb t.count wire_limit

-- the plan, where it is told whether the table is well formed
unfoldable pub plan_as : Bool → Table → Event → Planned
plan_as formed t e =
    if eqb (refusal_as formed t e) DONE then doing t e else refused_plan (refusal_as formed t e)

-- an event of this kind that the first tests let through: the kind is known, and the table has the room
pub record Begins (t : Table) (e : Event) (k : ℕ) : Type 0 where
  pub low : t.n ≤ room_limit
  pub room : e.room < t.n
  pub kind : e.kind ≡ k
