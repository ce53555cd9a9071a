-- The clauses of the invariant that are about what rooms own.
use Rattle.std.specs.Prelude.{◌≡◌, ◌≢◌, ◌⊎◌, true, false, List, [], ◌∷◌, ℕ, ◌≤◌, ◌<◌}
use Rattle.base.specs.Lists.{Mem}
use Rattle.modes.specs.Codes.{none, IR}
use Rattle.modes.specs.Modes.{agrees}
use Rattle.modes.specs.Under.{under, small}
use Rattle.room.specs.declared.Room.{Room}
use Rattle.room.specs.Limits.{room_limit}
use Rattle.room.specs.Record.{entry_at}
use Rattle.room.specs.Owned.{owned, has_no_entries}
use Rattle.table.specs.declared.Wire.{Wire}
use Rattle.table.specs.declared.Queued.{Queued}
use Rattle.table.specs.declared.Message.TheVariants as msg
use Rattle.rules.specs.Rules.{upgrade_waits}
use Rattle.owning.specs.Parts.{part}

-- a room owes exactly what it owns
abbrev pub Square : Room → Type 0
Square r = r.credit ≡ owned r

-- EXACT: so does each room without the token
abbrev pub Exact : ℕ → (ℕ → Room) → Type 0
Exact n rooms = (c : ℕ) → c < n → (rooms c).token ≡ false → Square (rooms c)

-- a message, if it is a REDUCE, is to none or IR
abbrev pub ReduceSmall : Wire → Type 0
ReduceSmall w = (l m : ℕ) → w.message ≡ msg.Reduce l m → m ≤ IR

-- SMALL: entries and the remaining mode of a TOKEN are none, IR, R or IW; the new mode of a REDUCE is none or IR
pub record Small (n : ℕ) (rooms : ℕ → Room) (messages : List Wire) : Type 0 where
  pub entry : (c j : ℕ) → c < n → j < room_limit → small (entry_at (rooms c) j).mode ≡ true
  pub rest : (w : Wire) → Mem w messages → (m rest l : ℕ) → w.message ≡ msg.Token m rest l → small rest ≡ true
  pub new : (w : Wire) → Mem w messages → ReduceSmall w

-- PAIRS: the modes of a room agree with each other;
abbrev pub Agreeing : Room → Type 0
Agreeing r = (i j : ℕ) → i ≤ room_limit → j ≤ room_limit → i ≢ j → agrees (part r i) (part r j) ≡ true

-- and the mode and the remaining mode of a TOKEN agree with each other and with all modes of its receiver
pub record Pairs (n : ℕ) (rooms : ℕ → Room) (messages : List Wire) : Type 0 where
  pub room : (c : ℕ) → c < n → Agreeing (rooms c)
  pub both : (w : Wire) → Mem w messages → (m rest l : ℕ) → w.message ≡ msg.Token m rest l → agrees m rest ≡ true
  pub mode : (w : Wire) → Mem w messages → (m rest l : ℕ) → w.message ≡ msg.Token m rest l
      → (i : ℕ) → i ≤ room_limit → agrees m (part (rooms w.to) i) ≡ true
  pub rest : (w : Wire) → Mem w messages → (m rest l : ℕ) → w.message ≡ msg.Token m rest l
      → (i : ℕ) → i ≤ room_limit → agrees rest (part (rooms w.to) i) ≡ true

-- a message, if it is a GRANT, fits over what its receiver owns
abbrev pub GrantFits : (ℕ → Room) → Wire → Type 0
GrantFits rooms w = (m l : ℕ) → w.message ≡ msg.Grant m l → under (owned (rooms w.to)) m ≡ true

-- FITS: what a room owns to which a GRANT is under way is under the mode of that GRANT
abbrev pub Fits : (ℕ → Room) → List Wire → Type 0
Fits rooms messages = (w : Wire) → Mem w messages → GrantFits rooms w

-- a room owns nothing
abbrev pub Free : Room → Type 0
Free r = owned r ≡ none

-- a message, if it is a REQUEST that says so, has an origin that owns nothing
abbrev pub RequestIdle : (ℕ → Room) → Wire → Type 0
RequestIdle rooms w = (o m : ℕ) → w.message ≡ msg.Request o m true → Free (rooms o)

-- IDLE: the origin of a REQUEST that says so owns nothing
abbrev pub Idle : (ℕ → Room) → List Wire → Type 0
Idle rooms messages = (w : Wire) → Mem w messages → RequestIdle rooms w

-- the queue has a head, and it conflicts with what the room owns
unfoldable pub Blocked : Room → List Queued → Type 0
Blocked r [] = ⊥
Blocked r (q ∷ rest) = agrees (owned r) q.mode ≡ false

-- a room that waits for IR owns none or IR, or has the token and the head of the queue conflicts with what it owns
abbrev pub LightAt : Room → List Queued → Type 0
LightAt r queue = r.wanted ≡ IR → (owned r ≤ IR) ⊎ ((r.token ≡ true) × Blocked r queue)

-- LIGHT: so it is with each room
abbrev pub Light : ℕ → (ℕ → Room) → List Queued → Type 0
Light n rooms queue = (c : ℕ) → c < n → LightAt (rooms c) queue

-- at the room with the token a waiting upgrade has an entry;
abbrev pub UpgradeServed : Room → Type 0
UpgradeServed r = r.token ≡ true → upgrade_waits r ≡ true → has_no_entries r ≡ false

-- with none waiting the head of the queue, if any, conflicts with owned
abbrev pub HeadServed : Room → List Queued → Type 0
HeadServed r queue = r.token ≡ true → upgrade_waits r ≡ false → (queue ≡ []) ⊎ Blocked r queue

-- SERVED: so it is with each room
pub record Served (n : ℕ) (rooms : ℕ → Room) (queue : List Queued) : Type 0 where
  pub upgrade : (c : ℕ) → c < n → UpgradeServed (rooms c)
  pub head : (c : ℕ) → c < n → HeadServed (rooms c) queue
