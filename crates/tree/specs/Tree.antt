-- TREE: each room ranks above its lender, and above a room whose GRANT is under way to it.
use Rattle.std.specs.Prelude.{◌≡◌, ◌≢◌, Bool, true, false, List, ℕ, ◌<◌}
use Rattle.base.specs.Lists.{Mem}
use Rattle.std.specs.Prelude.{None}
use Rattle.room.specs.Record.{lender_of}
use Rattle.room.specs.declared.Room.{Room}
use Rattle.table.specs.declared.Wire.{Wire}
use Rattle.table.specs.declared.Message.{Message}
use Rattle.table.specs.declared.Message.TheVariants as msg
use Rattle.table.specs.Formed.{is_token}

-- no TOKEN is under way to room c
abbrev pub NoTokenTo : ℕ → List Wire → Type 0
NoTokenTo c messages = (w : Wire) → Mem w messages → is_token w.message ≡ true → w.to ≢ c

-- a message that is a loan under way
unfoldable pub is_grant : Message → Bool
is_grant msg.Nothing = false
is_grant (msg.Request o m idle) = false
is_grant (msg.Grant m l) = true
is_grant (msg.Token m rest l) = false
is_grant (msg.Reduce l m) = false

-- The room to which the TOKEN is under way may still have a lender: it is excused.
pub record Tree (n : ℕ) (rooms : ℕ → Room) (messages : List Wire) : Type 0 where
  pub rank : ℕ → ℕ
  pub lender : (c : ℕ) → c < n → (rooms c).lender ≢ None → NoTokenTo c messages → rank (lender_of (rooms c)) < rank c
  pub grant : (w : Wire) → Mem w messages → is_grant w.message ≡ true → rank w.«from» < rank w.to
