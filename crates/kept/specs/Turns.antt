-- One turn of serve: the head of the queue is served if it is the room itself, is lent to, or gets the token.
use Rattle.std.specs.Prelude.{◌≡◌, ◌≢◌, true, false, List, ◌∷◌, ◌++◌, ℕ, ◌≤◌, ltb}
use Rattle.std.proofs.Math.Path.{refl, sym, ap}
use Rattle.std.proofs.Common.{◌∙◌, arith, eq-eqb, ne_eqb, lt-ltb}
use mathlib.Core.List.Memᴰ
use Rattle.base.specs.Sums.{one}
use Rattle.modes.specs.Modes.{agrees, can_lend}
use Rattle.room.specs.declared.Room.{Room}
use Rattle.room.specs.Record.{with_modes}
use Rattle.room.specs.Owned.{owned}
use Rattle.table.specs.declared.Wire.{Wire}
use Rattle.table.specs.declared.Queued.{Queued}
use Rattle.table.specs.Formed.{due, names}
use Rattle.rules.specs.Work.{Work, with_queue, send}
use Rattle.rules.specs.Rules.{hold, lend, pass}
use Rattle.facts.specs.Rooms.{RoomFacts}
use Rattle.facts.specs.Due.{due-none}
use Rattle.facts.specs.Moments.{QueuedFacts}
use Rattle.facts.specs.Tokens.{holder-alone}
use Rattle.kept.specs.Changed.{changed-same}
use Rattle.kept.specs.Moment.{empty, waiting}
use Rattle.kept.specs.Hand.{name_of, take-queued}
use Rattle.kept.specs.Records.{modes-facts}
use Rattle.kept.specs.Acts.{At, Whole, now, own_room, own-names, set-unnamed}
use Rattle.kept.specs.Loans.{lend-kept, pass_kept}

-- a waiting room counts as 1
pub waits_one : (r : Room) (m : ℕ) → due r ≡ m → 1 ≤ m → waiting r ≡ 1
waits_one r m e h = ap one (lt-ltb 0 (due r) (omega arith))

module _ (n : ℕ) (rooms : ℕ → Room) (kept : List Wire) (w : Work) (q : Queued) (rest : List Queued)
    (a : Whole n rooms kept (with_queue w (q ∷ rest))) where
  -- the head is off the queue, and in hand
  taken : At n rooms kept (with_queue w rest) (name_of q) 0
  taken =
      record {
        small = a.small;
        low = a.low;
        long = a.long;
        moment = take-queued n (now rooms w) rest (kept ++ w.sent) q a.moment;
      }

  head : QueuedFacts n (now rooms w) q
  head = a.moment.queued q (Memᴰ.head refl)

  facts : RoomFacts n w.me w.room
  facts = own_room n rooms kept (with_queue w (q ∷ rest)) empty 0 a

  -- "if it is the room itself, it holds the mode and wants none"
  pub turn-self : w.room.token ≡ true → q.room ≡ w.me → Whole n rooms kept (with_queue (hold w q.mode) rest)
  unfolding hold
  turn-self with self =
      set-unnamed n rooms kept (with_queue w rest) (name_of q) 0 taken (with_modes w.room q.mode 0)
      (modes-facts n w.me w.room facts q.mode 0 head.code (omega arith) (λ e. with) (λ e. with) (λ p z. absurd (z refl)))
      a.long unnamed empty 0 (λ c l e. sym (ap one (ne_eqb q.room c (λ k. e (sym k ∙ self)))))
      (ap (λ (m : ℕ). one (ltb 0 m)) (sym (due-none (with_modes w.room q.mode 0) refl))) refl
    where
      waits : due w.room ≡ q.mode
      waits = ap due (sym (changed-same rooms w.me w.room) ∙ ap (now rooms w) (sym self)) ∙ head.waits

      unnamed : names rest (kept ++ w.sent) w.me ≡ 0
      unnamed = omega (
        arith,
        own-names n rooms kept (with_queue w rest) (name_of q) 0 taken,
        waits_one w.room q.mode waits head.some,
        ap one (eq-eqb q.room w.me self),
      )

  module _ (with : w.room.token ≡ true) (other : q.room ≢ w.me) where
    tokenless : (now rooms w q.room).token ≡ false
    tokenless =
        holder-alone n (now rooms w) (kept ++ w.sent) (omega (arith, a.moment.token)) w.me a.low (rw (changed-same rooms w.me w.room) with)
        q.room head.low other

    -- "if owned can lend it, lend"
    pub turn-lend : can_lend (owned w.room) q.mode ≡ true → Whole n rooms kept (with_queue (lend w q.room q.mode) rest)
    unfolding lend send
    turn-lend can = lend-kept n rooms kept (with_queue w rest) q.room q.mode head.low other can head.waits tokenless taken

    -- "else pass and stop"
    pub turn-pass : agrees (owned w.room) q.mode ≡ true → can_lend (owned w.room) q.mode ≡ false
        → Whole n rooms kept (pass (with_queue w rest) q.room q.mode)
    turn-pass agree cannot =
        pass_kept n rooms kept (with_queue w rest) q.room q.mode head.low other head.some head.code agree cannot with head.waits taken
