-- The rules with three places open: what joining, serving and sending on do.
use Rattle.std.specs.Prelude.{ℕ, ◌≡◌, refl, Bool, not, ◌&&◌, eqb, if◌then◌else◌}
use Rattle.modes.specs.Modes.{can_lend}
use Rattle.room.specs.Owned.{owned}
use Rattle.room.specs.Rules.{granted, tokened, reduced}
use Rattle.table.specs.declared.Message.{Message}
use Rattle.table.specs.declared.Message.TheVariants as msg
use Rattle.rules.specs.Work.{Work, with_room, send, join, change}
use Rattle.rules.specs.Rules.{hold, lend, settle, serve, settle_or_serve, ask, hand_back, take_request, receive}
use Rattle.variants.specs.Step.{Rules}
use Rattle.variants.specs.Same.{Right}

pub record Habits : Type 0 where
  -- the origin of a REQUEST, at the room with the token
  pub joins : Work → ℕ → ℕ → Work
  -- what the room with the token does then
  pub serves : Work → Work
  -- where a room without it sends a REQUEST of this origin on to
  pub onward : Work → ℕ → ℕ

abbrev toward : Work → ℕ → ℕ
toward w o = w.room.toward

-- what the rules do
abbrev pub right : Habits
right = record { joins = join; serves = serve; onward = toward }

-- the room with the token never serves
abbrev pub never_serving : Habits
never_serving = record { joins = join; serves = λ w. w; onward = toward }

-- it forgets who has asked
abbrev pub forgetting : Habits
forgetting = record { joins = λ w o m. w; serves = serve; onward = toward }

-- a REQUEST is sent back to its origin, which sends it on
abbrev pub circling : Habits
circling = record { joins = join; serves = serve; onward = λ w o. if eqb o w.me then w.room.toward else o }

module _ (h : Habits) where
  unfoldable pub settle_or_serve_by : Work → Work
  settle_or_serve_by w = if w.room.token then h.serves w else settle w

  unfoldable pub hand_back_by : Work → Work
  hand_back_by w = settle_or_serve_by (hold w 0)

  unfoldable pub take_request_by : Work → ℕ → ℕ → Bool → Work
  take_request_by w o m idle =
      if w.room.token then h.serves (h.joins w o m)
      else (if idle && not (eqb o w.me) && can_lend (owned w.room) m then settle (lend w o m)
      else send w (h.onward w o) (msg.Request o m idle))

  unfoldable pub receive_by : Work → ℕ → Message → Work
  receive_by w a msg.Nothing = w
  receive_by w a (msg.Request o m idle) = take_request_by w o m idle
  receive_by w a (msg.Grant m l) = change w (granted w.room a m l)
  receive_by w a (msg.Token m rest l) = h.serves (change w (tokened w.room w.me a m rest l))
  receive_by w a (msg.Reduce l m) = settle_or_serve_by (with_room w (reduced w.room a l m))

-- the rules with these habits
abbrev pub rules_by : Habits → Rules
rules_by h = record { asks = ask; hands_back = hand_back_by h; receives = receive_by h }

-- with the habits of the rules they are the rules
receive-right : (w : Work) (a : ℕ) (m : Message) → receive_by right w a m ≡ receive w a m
unfolding receive_by receive take_request_by take_request settle_or_serve_by settle_or_serve
receive-right w a msg.Nothing = refl
receive-right w a (msg.Request o m idle) = refl
receive-right w a (msg.Grant m l) = refl
receive-right w a (msg.Token m rest l) = refl
receive-right w a (msg.Reduce l m) = refl

pub rules-right : Right (rules_by right)
unfolding hand_back_by hand_back settle_or_serve_by settle_or_serve
rules-right = record { asks-right = λ w m. refl; hands-back-right = λ w. refl; receives-right = receive-right }
