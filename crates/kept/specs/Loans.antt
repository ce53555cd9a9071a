-- "Lend" and "pass", with the name of the room that gets the loan or the token in hand.
use Rattle.std.specs.Prelude.{◌≡◌, ◌≢◌, Bool, true, false, List, ℕ, ◌≤◌, ◌<◌, length, set}
use Rattle.std.proofs.Math.Path.{refl, ap}
use Rattle.std.proofs.Common.{◌∙◌, arith, length-set}
use Rattle.std.specs.Prelude.{Some}
use Rattle.modes.specs.Codes.{R, U, W}
use Rattle.modes.specs.Modes.{agrees, can_lend}
use Rattle.modes.proofs.Laws.{lends_some, lends-small, lends-codes, not-lent-low}
use Rattle.room.specs.declared.Room.{Room}
use Rattle.room.specs.Limits.{room_limit}
use Rattle.room.specs.Record.{no_entry, entry_of, with_debt, with_counter, set_entry}
use Rattle.room.specs.Owned.{owned}
use Rattle.room.proofs.Owning.{owned-held}
use Rattle.room.specs.Rules.{next_link, is_worn, lent_to, lent, left, remaining, passed_to, passed}
use Rattle.table.specs.declared.Wire.{Wire}
use Rattle.table.specs.Formed.{due}
use Rattle.rules.specs.Work.{Work, with_room, with_worn}
use Rattle.rules.specs.Rules.{lend, pass}
use Rattle.facts.specs.Rooms.{RoomFacts, owned-code}
use Rattle.facts.specs.Due.{due-same}
use Rattle.facts.specs.Cases.{passed-low}
use Rattle.kept.specs.Changed.{changed, changed-elsewhere}
use Rattle.kept.specs.Records.{counter-facts, lost-facts, owing-facts, entry-set-facts}
use Rattle.kept.specs.Acts.{At, Whole, now, only, own_room, set-alike, set-passing}
use Rattle.kept.specs.Sends.{put-grant, put-token}

-- whether the step is worn plays no part
pub worn-too : (n : ℕ) (rooms : ℕ → Room) (kept : List Wire) (w : Work) (b : Bool) (hand : ℕ → ℕ) (loose : ℕ)
    → At n rooms kept w hand loose → At n rooms kept (with_worn w b) hand loose
worn-too n rooms kept w b hand loose a = record { small = a.small; low = a.low; long = a.long; moment = a.moment }

module _ (n : ℕ) (rooms : ℕ → Room) (kept : List Wire) (w : Work) (y m : ℕ) (low : y < n) (other : y ≢ w.me) where
  -- the record of y is not the one that changes
  there : (r : Room) → changed rooms w.me r y ≡ now rooms w y
  there r = changed-elsewhere rooms w.me r w.room y other

  -- "Lend m to y": y waits for m and has no token
  pub lend-kept : can_lend (owned w.room) m ≡ true → due (now rooms w y) ≡ m → (now rooms w y).token ≡ false
      → At n rooms kept w (only y) 0 → Whole n rooms kept (lend w y m)
  unfolding lend lent lent_to
  lend-kept can waits without a =
      put-grant n rooms kept (with_worn (with_room w after) (is_worn w.room.counter)) y low other m (next_link w.room.counter)
      (record {
        some = lends_some (owned w.room) m can;
        weak = lends-small (owned w.room) m can;
        waits = ap due (there after) ∙ waits;
        without = ap (λ (r : Room). r.token) (there after) ∙ without;
      })
      (worn-too n rooms kept (with_room w after) (is_worn w.room.counter) (only y) 0
      (set-alike n rooms kept w (only y) 0 a after facts long (due-same w.room after refl refl) refl))
    where
      after : Room
      after = lent_to w.room y m

      facts : RoomFacts n w.me after
      facts =
          counter-facts n w.me (set_entry w.room y (entry_of m (next_link w.room.counter)))
          (entry-set-facts n w.me w.room (own_room n rooms kept w (only y) 0 a) y m (next_link w.room.counter) a.small a.long low other
          (omega (arith, (lends-codes (owned w.room) m can).1)))
          (next_link w.room.counter)

      long : length (set w.room.entries y (entry_of m (next_link w.room.counter))) ≡ room_limit
      long = length-set w.room.entries y (entry_of m (next_link w.room.counter)) ∙ a.long

  -- "Passing to w": what the room owns agrees with m but cannot lend it, so it holds neither U nor W
  pub pass_kept : 1 ≤ m → m ≤ W → agrees (owned w.room) m ≡ true → can_lend (owned w.room) m ≡ false → w.room.token ≡ true
      → due (now rooms w y) ≡ m → At n rooms kept w (only y) 0 → Whole n rooms kept (pass w y m)
  unfolding pass passed left remaining entry_of
  pass_kept some code agree cannot with waits a =
      put-token n rooms kept (with_worn (with_room w after) (is_worn w.room.counter)) y low other m (remaining w.room y) (next_link w.room.counter)
      (record { some = some; code = code; rest-code = rest-code; waits = ap due (there after) ∙ waits })
      (worn-too n rooms kept (with_room w after) (is_worn w.room.counter) (only y) 1 given)
    where
      after : Room
      after = passed_to w.room y

      owing : Room
      owing = with_debt (left w.room y) (Some y) (remaining w.room y) (next_link w.room.counter)

      -- the record without its entry for y
      cleared : RoomFacts n w.me (set_entry w.room y no_entry)
      cleared = entry-set-facts n w.me w.room (own_room n rooms kept w (only y) 0 a) y 0 0 a.small a.long low other (omega arith)

      rest-code : remaining w.room y ≤ W
      rest-code = owned-code n w.me (set_entry w.room y no_entry) cleared

      weak : w.room.held ≤ R
      weak = omega (arith, owned-held w.room, not-lent-low (owned w.room) m some agree cannot)

      -- "toward is w"
      gone : RoomFacts n w.me (left w.room y)
      gone =
          lost-facts n w.me (with_counter (set_entry w.room y no_entry) (next_link w.room.counter))
          (counter-facts n w.me (set_entry w.room y no_entry) cleared (next_link w.room.counter)) y low other
          (λ (e : w.room.held ≡ U). omega (arith, weak)) (λ (e : w.room.held ≡ W). omega (arith, weak))

      -- "if what remains isn't none, lender w, credit what remains, that link number"
      given : At n rooms kept (with_room w after) (only y) 1
      given =
          passed-low w.room y (omega (arith, a.small)) (λ (r : Room). At n rooms kept (with_room w r) (only y) 1)
          (λ e. set-passing n rooms kept w (only y) 0 a (left w.room y) gone long (due-same w.room _ refl refl) with refl)
          (λ e. set-passing n rooms kept w (only y) 0 a owing (owing-now e) long (due-same w.room _ refl refl) with refl)
        where
          long : length (set w.room.entries y no_entry) ≡ room_limit
          long = length-set w.room.entries y no_entry ∙ a.long

          owing-now : remaining w.room y ≢ 0 → RoomFacts n w.me owing
          owing-now e = owing-facts n w.me (left w.room y) gone y (remaining w.room y) (next_link w.room.counter) a.small low other (omega arith) rest-code refl
