-- "Numbers given back, in the order they are tried", as far as they are known before the step is made.
use Rattle.std.specs.Prelude.{ℕ, Bool, true, false, not, ◌&&◌, ◌||◌, List, [], ◌∷◌, ltb, leb, eqb, if◌then◌else◌}
use Rattle.base.specs.Below.{all_below}
use Rattle.modes.specs.Codes.{none, U}
use Rattle.std.specs.Prelude.{Option, Some, None}
use Rattle.table.specs.declared.Table.{Table}
use Rattle.table.specs.declared.Found.{Found}
use Rattle.table.specs.Numbers.{DONE, TABLE, EVENT, ROOM, MODE, WAITING, HELD, NOT-HELD, EMPTY, BUSY, WORN}
use Rattle.table.specs.Tables.{room_at}
use Rattle.table.specs.Oldest.{oldest_of}
use Rattle.table.specs.Formed.{well_formed, is_mode}
use Rattle.rules.specs.declared.Event.{Event}
use Rattle.rules.specs.Limits.{busy_limit, worn_limit}
use Rattle.rules.specs.Events.{is_ask, is_upgrade, is_hand_back, is_deliver}

-- a number, and when it is given
pub record Row : Type 0 where
  pub «number» : ℕ
  pub given : Bool

abbrev pub row : ℕ → Bool → Row
row k b = record { «number» = k; given = b }

-- the first number that applies; DONE where none does
unfoldable pub first : List Row → ℕ
first [] = DONE
first (r ∷ rows) = if r.given then r.«number» else first rows

unfoldable pub is_found : Option Found → Bool
is_found None = false
is_found (Some found) = true

-- "some counter at 4,294,967,000 or more"
unfoldable pub any_worn : Table → Bool
any_worn t = not (all_below t.n (λ c. ltb (room_at t c).counter worn_limit))

-- the numbers in their order, where it is told whether the table is well formed
abbrev pub refusals : Bool → Table → Event → List Row
refusals formed t e =
    row TABLE (not formed)
    ∷ row EVENT (not (is_ask e || is_upgrade e || is_hand_back e || is_deliver e))
    ∷ row ROOM (leb t.n e.room || is_deliver e && leb t.n e.other)
    ∷ row MODE (is_ask e && not (is_mode e.mode))
    ∷ row WAITING (not (is_deliver e) && not (eqb (room_at t e.room).wanted none))
    ∷ row HELD (is_ask e && not (eqb (room_at t e.room).held none))
    ∷ row NOT-HELD (is_hand_back e && eqb (room_at t e.room).held none || is_upgrade e && not (eqb (room_at t e.room).held U))
    ∷ row EMPTY (is_deliver e && not (is_found (oldest_of t e.room e.other)))
    ∷ row BUSY (is_ask e && leb busy_limit t.count)
    ∷ row WORN (is_ask e && any_worn t)
    ∷ []

unfoldable pub refusal_as : Bool → Table → Event → ℕ
refusal_as formed t e = first (refusals formed t e)

unfoldable pub refusal : Table → Event → ℕ
refusal t e = refusal_as (well_formed t) t e
