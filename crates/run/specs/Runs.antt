-- A run of events from a fresh table: what is given back, and what holds of the table.
use Rattle.std.specs.Prelude.{ℕ, ◌≤◌, ◌<◌, ◌≡◌, ◌≢◌, true, Some, List, [], ◌∷◌, eqb, if◌then◌else◌}
use Rattle.base.specs.Choice.{decided}
use Rattle.room.specs.Limits.{room_limit}
use Rattle.table.specs.declared.Table.{Table}
use Rattle.table.specs.Numbers.{DONE}
use Rattle.table.specs.Tables.{room_at, Answer, answer, fresh_of}
use Rattle.table.specs.declared.Message.{Message}
use Rattle.table.specs.Oldest.{found_at, oldest_of}
use Rattle.table.specs.Formed.{well_formed}
use Rattle.rules.specs.declared.Event.{Event}
use Rattle.rules.specs.Events.{HANDBACK, DELIVER}
use Rattle.rules.specs.Step.{step_of, runs}
use Rattle.bounds.specs.Bounds.{most_messages}
use Rattle.safe.specs.Reached.{Reached, Demand3}

-- events in bytes, four for each: kind, room, other and mode; what is left at the end is no event
unfoldable pub events_of : List ℕ → List Event
events_of [] = []
events_of (kind ∷ []) = []
events_of (kind ∷ room ∷ []) = []
events_of (kind ∷ room ∷ other ∷ []) = []
events_of (kind ∷ room ∷ other ∷ mode ∷ rest) = record { kind = kind; room = room; other = other; mode = mode } ∷ events_of rest

-- events made on a fresh table; on a refused one none is made
unfoldable pub continued : Answer → List Event → Answer
continued a events = if eqb a.«number» DONE then answer DONE (runs a.table events) else a

-- the number given to the fresh table, and the table after all events
unfoldable pub ran_of : ℕ → List Event → Answer
ran_of n events = continued (fresh_of n) events

-- What holds of a table that events lead to from a fresh one of n rooms.
pub record Holds (n : ℕ) (t : Table) : Type 0 where
  pub reached : Reached n t
  -- "there is always exactly one token, with one room or on one wire, and modes held by two rooms agree"
  pub demand3 : Demand3 n t
  pub formed : well_formed t ≡ true
  pub few : t.count ≤ most_messages
  -- no 10 and no 11: a delivery on a wire with a message is accepted,
  pub delivers : (e : Event) → e.kind ≡ DELIVER → (k : ℕ) (m : Message) → oldest_of t e.room e.other ≡ Some (found_at k m) → (step_of t e).«number» ≡ DONE
  -- and a hand-back by a room that holds and does not wait
  pub hands-back : (e : Event) → e.kind ≡ HANDBACK → e.room < n → (room_at t e.room).held ≢ 0 → (room_at t e.room).wanted ≡ 0
      → (step_of t e).«number» ≡ DONE

-- What a run gives back.
pub record Ran (n : ℕ) (events : List Event) (r : Answer) : Type 0 where
  pub is : r ≡ ran_of n events
  pub holds : 1 ≤ n → n ≤ room_limit → Holds n r.table

-- two results of one run are equal
pub ran-decided : (n : ℕ) (events : List Event) (r s : Answer) → Ran n events r → Ran n events s → r ≡ s
ran-decided n events r s p q = decided p.is q.is
