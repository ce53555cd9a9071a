-- Demand 3, second half: what is said of deliveries and hand-backs alone.
use Rattle.std.specs.Prelude.{ℕ, zero, suc, ◌+◌, ◌*◌, ◌≤◌, ◌<◌, ◌≡◌, ◌≢◌, ◌⊎◌, Bool, true, false, ◌||◌, List, [], ◌∷◌, eqb, if◌then◌else◌}
use Rattle.base.specs.Sums.{one}
use Rattle.table.specs.declared.Table.{Table}
use Rattle.table.specs.Numbers.{DONE}
use Rattle.table.specs.Tables.{room_at}
use Rattle.rules.specs.declared.Event.{Event}
use Rattle.rules.specs.Events.{is_hand_back, is_deliver}
use Rattle.rules.specs.Step.{step_of}

-- "if nobody asks or upgrades any more": a delivery or a hand-back
unfoldable pub is_draining : Event → Bool
is_draining e = is_deliver e || is_hand_back e

-- the table after one event, if it is a delivery or a hand-back; else it is passed over
unfoldable pub drained_by : Table → Event → Table
drained_by t e = if is_draining e then (step_of t e).table else t

-- whether it was made
unfoldable pub is_made : Table → Event → Bool
is_made t e = if is_draining e then eqb (step_of t e).«number» DONE else false

-- "in any order of deliveries and hand-backs", refused ones among them: the table after them, and how many were accepted
unfoldable pub drained : Table → List Event → Table
drained t [] = t
drained t (e ∷ es) = drained (drained_by t e) es

unfoldable pub steps : Table → List Event → ℕ
steps t [] = 0
steps t (e ∷ es) = one (is_made t e) + steps (drained_by t e) es

-- "at most 3n² + 8n + m further steps are accepted, m being the messages on the wires there"
abbrev pub bound : Table → ℕ
bound t = 3 * (t.n * t.n) + 8 * t.n + t.count

-- "When no more can be accepted"
abbrev pub Resting : Table → Type 0
Resting t = (e : Event) → is_draining e ≡ true → (step_of t e).«number» ≢ DONE

-- "each room that waited has been given its mode": room c held m at some point on the way
unfoldable pub HeldOnTheWay : ℕ → ℕ → Table → List Event → Type 0
HeldOnTheWay c m t [] = (room_at t c).held ≡ m
HeldOnTheWay c m t (e ∷ es) = ((room_at t c).held ≡ m) ⊎ HeldOnTheWay c m (drained_by t e) es

-- the first k events of a sequence
unfoldable pub firsts : ℕ → (ℕ → Event) → List Event
firsts zero next = []
firsts (suc k) next = next zero ∷ firsts k (λ i. next (suc i))

-- these events go on from t as long as something can be accepted: after any number of them the next is made, unless none can be
abbrev pub GoesOn : Table → (ℕ → Event) → Type 0
GoesOn t next = (k : ℕ) → Resting (drained t (firsts k next)) ⊎ (is_made (drained t (firsts k next)) (next k) ≡ true)

-- Demand 3, second half, of a table that events lead to
pub record Drains (n : ℕ) (t : Table) : Type 0 where
  -- at most so many are accepted
  pub few : (es : List Event) → steps t es ≤ bound t
  -- "When no more can be accepted nobody waits",
  pub rests : (es : List Event) → Resting (drained t es) → (c : ℕ) → c < n → (room_at (drained t es) c).wanted ≡ 0
  -- and each room that waited has been given its mode
  pub given : (es : List Event) → Resting (drained t es) → (c : ℕ) → c < n → (room_at t c).wanted ≢ 0
      → HeldOnTheWay c (room_at t c).wanted t es
  -- such an end is reached within the bound by whoever goes on, whatever each next event is
  pub comes : (next : ℕ → Event) → GoesOn t next → (k : ℕ) × (k ≤ bound t) × Resting (drained t (firsts k next))
  -- and one can go on
  pub goes : (next : ℕ → Event) × GoesOn t next
