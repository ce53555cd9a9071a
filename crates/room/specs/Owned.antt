-- "A room's owned mode is the strongest of its held mode and its entries."
use Rattle.std.specs.Prelude.{ℕ, zero, suc, Bool, eqb, if◌then◌else◌}
use Rattle.modes.specs.Codes.{none}
use Rattle.base.specs.Below.{all_below}
use Rattle.modes.specs.Modes.{is_stronger}
use Rattle.room.specs.declared.Room.{Room}
use Rattle.room.specs.Limits.{room_limit}
use Rattle.room.specs.Record.{entry_at}

-- the stronger of two modes
unfoldable pub larger : ℕ → ℕ → ℕ
larger a b = if is_stronger b a then b else a

-- the strongest of a mode and the modes of the first k entries
unfoldable pub strongest : Room → ℕ → ℕ
strongest r zero = r.held
strongest r (suc k) = larger (strongest r k) (entry_at r k).mode

unfoldable pub owned : Room → ℕ
owned r = strongest r room_limit

-- "With no entries": every entry is of mode none
unfoldable pub has_no_entries : Room → Bool
has_no_entries r = all_below room_limit (λ c. eqb (entry_at r c).mode none)
