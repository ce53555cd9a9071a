-- A moment inside a step: well formed but for a name or the token that the room that acts has in hand, taken off and not yet put down.
use Rattle.std.specs.Prelude.{◌≡◌, Bool, false, List, ℕ, ◌+◌, ◌<◌, ltb}
use Rattle.base.specs.Sums.{one}
use Rattle.base.specs.Lists.{Mem}
use Rattle.room.specs.declared.Room.{Room}
use Rattle.table.specs.declared.Wire.{Wire}
use Rattle.table.specs.declared.Queued.{Queued}
use Rattle.table.specs.declared.Message.TheVariants as msg
use Rattle.table.specs.Formed.{due, tokens, names}
use Rattle.facts.specs.Rooms.{RoomFacts}
use Rattle.facts.specs.Moments.{QueuedFacts, MessageFacts}

-- no REQUEST was begun by a room that has the token
abbrev pub NoOwnRequest : (ℕ → Room) → List Wire → Type 0
NoOwnRequest rooms messages =
    (w : Wire) → Mem w messages → (o m : ℕ) (idle : Bool) → w.message ≡ msg.Request o m idle → (rooms o).token ≡ false

-- 1 for a waiting room without an upgrade, else 0
abbrev pub waiting : Room → ℕ
waiting r = one (ltb 0 (due r))

-- a message as it should be, and no REQUEST of the room with the token
pub record Right (n : ℕ) (rooms : ℕ → Room) (w : Wire) : Type 0 where
  pub facts : MessageFacts n rooms w
  pub unowned : (o m : ℕ) (idle : Bool) → w.message ≡ msg.Request o m idle → (rooms o).token ≡ false

-- `hand c` names of room c and `loose` tokens are in hand
pub record Moment (n : ℕ) (rooms : ℕ → Room) (queue : List Queued) (messages : List Wire) (hand : ℕ → ℕ) (loose : ℕ) : Type 0 where
  pub room : (c : ℕ) → c < n → RoomFacts n c (rooms c)
  pub queued : (q : Queued) → Mem q queue → QueuedFacts n rooms q
  pub right : (w : Wire) → Mem w messages → Right n rooms w
  pub token : tokens n rooms messages + loose ≡ 1
  pub named : (c : ℕ) → c < n → names queue messages c + hand c ≡ waiting (rooms c)

-- nothing in hand
abbrev pub empty : ℕ → ℕ
empty c = 0

abbrev pub Sound : ℕ → (ℕ → Room) → List Queued → List Wire → Type 0
Sound n rooms queue messages = Moment n rooms queue messages empty 0
