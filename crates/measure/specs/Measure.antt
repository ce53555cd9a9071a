-- The measure: what the messages under way, the names and the rooms can still cost in deliveries and hand-backs.
use Rattle.std.specs.Prelude.{ℕ, ◌+◌, ◌*◌, Bool, true, false, ◌||◌, List, [], ◌∷◌, ltb, length, if◌then◌else◌}
use Rattle.base.specs.Sums.{one, sum}
use Rattle.base.specs.Lists.{count}
use Rattle.room.specs.declared.Room.{Room}
use Rattle.table.specs.declared.Wire.{Wire}
use Rattle.table.specs.declared.Queued.{Queued}
use Rattle.table.specs.declared.Message.{Message}
use Rattle.table.specs.declared.Message.TheVariants as msg
use Rattle.table.specs.Formed.{is_token}
use Rattle.table.specs.Oldest.{between}
use Rattle.bounds.specs.Bounds.{level}
use Rattle.bounds.proofs.Weights.{requests}

-- names that wait to be served: in the queue, in REQUESTs, and in hand, taken off the queue or a wire and not yet put down
abbrev pub pending : List Queued → List Wire → ℕ → ℕ
pending queue messages hand = length queue + requests messages + hand

-- how many TOKENs are under way
abbrev pub tokens_in : List Wire → ℕ
tokens_in messages = count (λ w. is_token w.message) messages

-- what each thing weighs: a GRANT, a TOKEN, a REDUCE, a name that waits, a room that holds
abbrev pub grant_weight : ℕ
grant_weight = 4

abbrev pub token_weight : ℕ
token_weight = 2

abbrev pub reduce_weight : ℕ
reduce_weight = 1

abbrev pub name_weight : ℕ
name_weight = 4

abbrev pub hold_weight : ℕ
hold_weight = 1

-- what a message costs, a REQUEST by its share and what comes on top
unfoldable pub charge : ℕ → ℕ → Message → ℕ
charge share extra msg.Nothing = 0
charge share extra (msg.Request o m idle) = share + extra
charge share extra (msg.Grant m l) = grant_weight
charge share extra (msg.Token m rest l) = token_weight
charge share extra (msg.Reduce l m) = reduce_weight

-- the test of standing behind a TOKEN on its own wire, once w has come by
unfoldable pub follow : (Wire → Bool) → Wire → Wire → Bool
follow behind w = if is_token w.message then (λ v. behind v || between w.«from» w.to v) else behind

-- on top of the share of a REQUEST: nothing behind a TOKEN on its wire; else the height of its receiver, and the flag of a TOKEN under way
unfoldable pub above : Bool → ℕ → ℕ → ℕ
above true high flag = 0
above false high flag = high + flag

abbrev pub extra : (ℕ → ℕ) → ℕ → (Wire → Bool) → Wire → ℕ
extra height flag behind w = above (behind w) (height w.to) flag

-- the messages of a list, of which those that pass the test stand behind a TOKEN
unfoldable pub pile : (ℕ → ℕ) → ℕ → ℕ → (Wire → Bool) → List Wire → ℕ
pile height share flag behind [] = 0
pile height share flag behind (w ∷ l) =
    charge share (extra height flag behind w) w.message + pile height share flag (follow behind w) l

-- nothing has come by
abbrev pub nothing : Wire → Bool
nothing w = false

-- a room: 1 if it holds, and the level of its credit
unfoldable pub own : Room → ℕ
own r = hold_weight * one (ltb 0 r.held) + level r.credit

-- all with so many names waiting and so many TOKENs under way
unfoldable pub load : ℕ → (ℕ → Room) → List Wire → (ℕ → ℕ) → ℕ → ℕ → ℕ
load n rooms messages height names flag = pile height names flag nothing messages + name_weight * names + sum n (λ c. own (rooms c))

unfoldable pub potential : ℕ → (ℕ → Room) → List Queued → List Wire → ℕ → (ℕ → ℕ) → ℕ
potential n rooms queue messages hand height = load n rooms messages height (pending queue messages hand) (tokens_in messages)
