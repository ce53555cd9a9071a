-- A loan as its lender has it and as its borrower has it, once what is on the wires between them has arrived.
use Rattle.std.specs.Prelude.{◌≡◌, ◌≢◌, ◌&&◌, List, ℕ, ◌<◌, eqb, if◌then◌else◌}
use Rattle.base.specs.Folds.{folds}
use Rattle.modes.specs.Modes.{is_stronger}
use Rattle.room.specs.declared.Room.{Room}
use Rattle.room.specs.declared.Entry.{Entry}
use Rattle.room.specs.Record.{no_entry, entry_of, entry_at, is_lender}
use Rattle.table.specs.declared.Wire.{Wire}
use Rattle.table.specs.declared.Message.{Message}
use Rattle.table.specs.declared.Message.TheVariants as msg
use Rattle.table.specs.Oldest.{between}

-- the lender's entry when a message of the borrower's arrives: a REDUCE under its link number lowers it, and a TOKEN sets it
unfoldable pub flush : Entry → Message → Entry
flush e msg.Nothing = e
flush e (msg.Request o m idle) = e
flush e (msg.Grant m l) = e
flush e (msg.Token m rest l) = entry_of rest l
flush e (msg.Reduce l m) = if eqb e.link l && is_stronger e.mode m then entry_of m l else e

-- what the borrower owes when a message of the lender's arrives: a GRANT is a new loan, and a TOKEN ends all
unfoldable pub owe : Entry → Message → Entry
owe e msg.Nothing = e
owe e (msg.Request o m idle) = e
owe e (msg.Grant m l) = record { mode = m; link = l }
owe e (msg.Token m rest l) = no_entry
owe e (msg.Reduce l m) = e

-- a message on the wire from x to y, or on another
unfoldable pub arriving : {A : Type 0} → (A → Message → A) → ℕ → ℕ → A → Wire → A
arriving f x y e w = if between x y w then f e w.message else e

-- p's entry for c once everything on the wire from c to p has arrived
abbrev pub flushed : (ℕ → Room) → List Wire → ℕ → ℕ → Entry
flushed rooms messages p c = folds (arriving flush c p) (entry_at (rooms p) c) messages

-- what c owes p as its record says
unfoldable pub debt : Room → ℕ → Entry
debt r p = if is_lender r.lender p then record { mode = r.credit; link = r.link } else no_entry

-- what c owes p once everything on the wire from p to c has arrived
abbrev pub owed : (ℕ → Room) → List Wire → ℕ → ℕ → Entry
owed rooms messages p c = folds (arriving owe p c) (debt (rooms c) p) messages

-- LEDGER: lender and borrower have each loan alike
abbrev pub Ledger : ℕ → (ℕ → Room) → List Wire → Type 0
Ledger n rooms messages = (p c : ℕ) → p < n → c < n → p ≢ c → flushed rooms messages p c ≡ owed rooms messages p c
