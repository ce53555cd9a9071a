-- Following toward from room to room comes nearer to the token, as a height of each room says.
use Rattle.std.specs.Prelude.{◌≡◌, false, ◌&&◌, List, ℕ, ◌<◌, eqb}
use Rattle.base.specs.Lists.{count}
use Rattle.room.specs.declared.Room.{Room}
use Rattle.table.specs.declared.Wire.{Wire}
use Rattle.table.specs.Formed.{is_token}

-- how many TOKENs of room c are under way
unfoldable pub passing : ℕ → List Wire → ℕ
passing c messages = count (λ w. is_token w.message && eqb w.«from» c) messages

-- WAY: a room is higher than the one that it looks toward, unless it has the token or is the sender of a TOKEN under way
abbrev pub Leads : ℕ → (ℕ → Room) → List Wire → (ℕ → ℕ) → Type 0
Leads n rooms messages height =
    (c : ℕ) → c < n → (rooms c).token ≡ false → passing c messages ≡ 0 → height (rooms c).toward < height c
