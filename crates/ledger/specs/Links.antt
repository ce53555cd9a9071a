-- LINKS and SENDER: which link numbers there are, and what a TOKEN under way says of its sender.
use Rattle.std.specs.Prelude.{◌≡◌, ◌≢◌, Bool, true, List, ℕ, ◌≤◌, ◌<◌, length, get_or}
use Rattle.base.specs.Folds.{folds}
use Rattle.base.specs.Lists.{Mem}
use Rattle.std.specs.Prelude.{Some}
use Rattle.room.specs.declared.Room.{Room}
use Rattle.room.specs.Rules.{lifted}
use Rattle.table.specs.declared.Wire.{Wire}
use Rattle.table.specs.declared.Message.{Message}
use Rattle.table.specs.declared.Message.TheVariants as msg
use Rattle.table.specs.Tables.{no_wire}
use Rattle.table.specs.Oldest.{between}
use Rattle.ledger.specs.Loans.{arriving}

-- the counter of a room when a message arrives: a TOKEN lifts it
unfoldable pub lift : ℕ → Message → ℕ
lift k msg.Nothing = k
lift k (msg.Request o m idle) = k
lift k (msg.Grant m l) = k
lift k (msg.Token m rest l) = lifted k l
lift k (msg.Reduce l m) = k

-- p's counter once everything on the wire from c to p has arrived
abbrev pub reach : (ℕ → Room) → List Wire → ℕ → ℕ → ℕ
reach rooms messages p c = folds (arriving lift c p) (rooms p).counter messages

-- LINKS
pub record Links (n : ℕ) (rooms : ℕ → Room) (messages : List Wire) : Type 0 where
  -- a REDUCE, and the link number of a room with a lender, are within that lender's reach
  pub reduce : (w : Wire) → Mem w messages → (l m : ℕ) → w.message ≡ msg.Reduce l m → l ≤ reach rooms messages w.to w.«from»
  pub debt : (p c : ℕ) → p < n → c < n → (rooms c).lender ≡ Some p → (rooms c).link ≤ reach rooms messages p c
  -- a GRANT has a number that its sender has counted to, and not that of a loan which its receiver already has from there
  pub grant : (w : Wire) → Mem w messages → (m l : ℕ) → w.message ≡ msg.Grant m l → l ≤ (rooms w.«from»).counter
  pub differs : (w : Wire) → Mem w messages → (m l : ℕ) → w.message ≡ msg.Grant m l → (rooms w.to).lender ≡ Some w.«from» → l ≢ (rooms w.to).link

-- a TOKEN and a REQUEST begun by its sender are on one wire
abbrev pub Along : Wire → Wire → Type 0
Along w v =
    (m rest l : ℕ) → w.message ≡ msg.Token m rest l
    → (o k : ℕ) (idle : Bool) → v.message ≡ msg.Request o k idle → o ≡ w.«from» → between w.«from» w.to v ≡ true

-- SENDER: a TOKEN under way
pub record Sender (rooms : ℕ → Room) (messages : List Wire) : Type 0 where
  -- its sender looks toward its receiver, and has counted to its link number
  pub toward : (w : Wire) → Mem w messages → (m rest l : ℕ) → w.message ≡ msg.Token m rest l → (rooms w.«from»).toward ≡ w.to
  pub counted : (w : Wire) → Mem w messages → (m rest l : ℕ) → w.message ≡ msg.Token m rest l → l ≤ (rooms w.«from»).counter
  -- a REQUEST begun by its sender is on its wire, behind it
  pub along : (w v : Wire) → Mem w messages → Mem v messages → Along w v
  pub behind : (i j : ℕ) → i < length messages → j < length messages → (m rest l : ℕ) → (get_or messages i no_wire).message ≡ msg.Token m rest l
      → (o k : ℕ) (idle : Bool) → (get_or messages j no_wire).message ≡ msg.Request o k idle → o ≡ (get_or messages i no_wire).«from» → i < j
