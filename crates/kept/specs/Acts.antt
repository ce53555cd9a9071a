-- A moment of the room that acts: its record, the queue, the messages that were left and those that it sent; and each small change of them.
use Rattle.std.specs.Prelude.{◌≡◌, refl, ◌≢◌, Bool, true, false, ℕ, ◌+◌, ◌≤◌, ◌<◌, eqb, length}
use Rattle.std.proofs.Common.{sym, ◌∙◌, ap, inl, arith}
use mathlib.Core.List.{List, [], ◌∷◌, ◌++◌, append_assoc}
use Rattle.base.specs.Sums.{one}
use Rattle.room.specs.declared.Room.{Room}
use Rattle.room.specs.Limits.{room_limit}
use Rattle.table.specs.declared.Wire.{Wire}
use Rattle.table.specs.declared.Message.{Message}
use Rattle.table.specs.declared.Message.TheVariants as msg
use Rattle.table.specs.Formed.{due, is_token, is_named_in, names}
use Rattle.rules.specs.Work.{Work, with_room, send, join}
use Rattle.facts.specs.Rooms.{RoomFacts}
use Rattle.facts.specs.Moments.{QueuedFacts}
use Rattle.facts.specs.Messages.{Proper, in_use}
use Rattle.facts.specs.Wires.{wire}
use Rattle.kept.specs.Changed.{changed, changed-same, changed-elsewhere}
use Rattle.kept.specs.Moment.{Moment, waiting, empty}
use Rattle.kept.specs.Hand.{put-message, put-queued}
use Rattle.kept.specs.Change.{change, change-alike, change-passing}

-- the rooms, as the room that acts has its record now
abbrev pub now : (ℕ → Room) → Work → ℕ → Room
now rooms w = changed rooms w.me w.room

pub record At (n : ℕ) (rooms : ℕ → Room) (kept : List Wire) (w : Work) (hand : ℕ → ℕ) (loose : ℕ) : Type 0 where
  pub small : n ≤ room_limit
  pub low : w.me < n
  pub long : length w.room.entries ≡ room_limit
  pub moment : Moment n (now rooms w) w.queue (kept ++ w.sent) hand loose

-- the name of room y in hand
abbrev pub only : ℕ → ℕ → ℕ
only y c = one (eqb y c)

-- nothing in hand
abbrev pub Whole : ℕ → (ℕ → Room) → List Wire → Work → Type 0
Whole n rooms kept w = At n rooms kept w empty 0

module _ (n : ℕ) (rooms : ℕ → Room) (kept : List Wire) (w : Work) where
  -- the record of the room that acts
  pub own_room : (hand : ℕ → ℕ) (loose : ℕ) → At n rooms kept w hand loose → RoomFacts n w.me w.room
  own_room hand loose a = rw (changed-same rooms w.me w.room) at (a.moment.room w.me a.low)

  -- names of the room that acts
  pub own-names : (hand : ℕ → ℕ) (loose : ℕ) → At n rooms kept w hand loose
      → names w.queue (kept ++ w.sent) w.me + hand w.me ≡ waiting w.room
  own-names hand loose a = a.moment.named w.me a.low ∙ ap waiting (changed-same rooms w.me w.room)

  module _ (hand : ℕ → ℕ) (loose : ℕ) (a : At n rooms kept w hand loose) (r : Room) (f : RoomFacts n w.me r)
      (long : length r.entries ≡ room_limit) where
    others : (c : ℕ) → c ≢ w.me → changed rooms w.me r c ≡ now rooms w c
    others c e = changed-elsewhere rooms w.me r w.room c e

    facts-here : RoomFacts n w.me (changed rooms w.me r w.me)
    facts-here = rw (changed-same rooms w.me r) f

    -- it waits as before, and has the token exactly if it had it
    pub set-alike : due r ≡ due w.room → r.token ≡ w.room.token → At n rooms kept (with_room w r) hand loose
    set-alike d t =
        record {
          small = a.small;
          low = a.low;
          long = long;
          moment =
              change-alike n (now rooms w) (changed rooms w.me r) w.queue (kept ++ w.sent) w.me a.low others hand loose a.moment facts-here
              (rw (changed-same rooms w.me r, changed-same rooms w.me w.room) d)
              (rw (changed-same rooms w.me r, changed-same rooms w.me w.room) t);
        }

    -- it waits as before, and its token is in hand now
    pub set-passing : due r ≡ due w.room → w.room.token ≡ true → r.token ≡ false → At n rooms kept (with_room w r) hand (loose + 1)
    set-passing d t u =
        record {
          small = a.small;
          low = a.low;
          long = long;
          moment =
              change-passing n (now rooms w) (changed rooms w.me r) w.queue (kept ++ w.sent) w.me a.low others hand loose a.moment facts-here
              (rw (changed-same rooms w.me r, changed-same rooms w.me w.room) d)
              (rw (changed-same rooms w.me w.room) t)
              (rw (changed-same rooms w.me r) u);
        }

    -- nothing names it: it may begin to wait, with its name in hand, or have ended
    pub set-unnamed : names w.queue (kept ++ w.sent) w.me ≡ 0 → (left : ℕ → ℕ) (rest : ℕ)
        → ((c : ℕ) → c < n → c ≢ w.me → left c ≡ hand c) → left w.me ≡ waiting r → rest + one r.token ≡ loose + one w.room.token
        → At n rooms kept (with_room w r) left rest
    set-unnamed z left rest there here token =
        record {
          small = a.small;
          low = a.low;
          long = long;
          moment =
              change n (now rooms w) (changed rooms w.me r) w.queue (kept ++ w.sent) w.me a.low others hand loose a.moment facts-here
              (inl z) left rest there
              (rw (changed-same rooms w.me r) (omega (arith, z, here)))
              (rw (changed-same rooms w.me r, changed-same rooms w.me w.room) token);
        }

  -- a message is sent, with the names and the token that it carries
  module _ (hand : ℕ → ℕ) (loose : ℕ) (a : At n rooms kept w hand loose) where
    pub put-sent : (y : ℕ) (m : Message) (left : ℕ → ℕ) (rest : ℕ)
        → y < n → y ≢ w.me → Proper n (now rooms w) y m
        → ((o k : ℕ) (idle : Bool) → m ≡ msg.Request o k idle → (now rooms w o).token ≡ false)
        → ((c : ℕ) → c < n → hand c ≡ one (is_named_in c y m) + left c) → loose ≡ one (is_token m) + rest
        → At n rooms kept (send w y m) left rest
    unfolding send
    put-sent y m left rest low other proper unowned names token =
        record {
          small = a.small;
          low = a.low;
          long = a.long;
          moment =
              rw (← append_assoc kept w.sent (wire w.me y m ∷ []))
              (put-message n (now rooms w) w.queue (kept ++ w.sent) hand left loose rest a.moment (wire w.me y m)
              (record { facts = in_use n (now rooms w) (wire w.me y m) a.low low (λ e. other (sym e)) proper; unowned = unowned })
              names token);
        }

    -- room y joins the queue
    pub put-joined : (y m : ℕ) (left : ℕ → ℕ) → QueuedFacts n (now rooms w) (record { room = y; mode = m })
        → ((c : ℕ) → c < n → hand c ≡ only y c + left c) → At n rooms kept (join w y m) left loose
    unfolding join
    put-joined y m left facts names =
        record {
          small = a.small;
          low = a.low;
          long = a.long;
          moment = put-queued n (now rooms w) w.queue (kept ++ w.sent) hand left loose loose a.moment (record { room = y; mode = m }) facts names refl;
        }
