-- ASK, UPGRADE and HANDBACK keep a moment whole.
use Rattle.std.specs.Prelude.{◌≡◌, ◌≢◌, true, false, ◌&&◌, List, ◌++◌, ℕ, ◌≤◌, ltb, eqb}
use Rattle.std.proofs.Math.Path.{refl, sym, ap}
use Rattle.std.proofs.Common.{◌∙◌, eq-eqb, ne_eqb}
use native.Mathlib.Omega.{arith}
use Rattle.base.specs.Choice.{by-test}
use Rattle.base.specs.Tests.{clash}
use Rattle.base.specs.Sums.{one}
use Rattle.modes.specs.Codes.{U, W}
use Rattle.modes.specs.Modes.{agrees, can_lend}
use Rattle.modes.proofs.Laws.{lends-small, small-weak}
use Rattle.room.specs.declared.Room.{Room}
use Rattle.room.specs.Record.{with_modes}
use Rattle.room.specs.Owned.{owned, has_no_entries}
use Rattle.table.specs.declared.Wire.{Wire}
use Rattle.table.specs.declared.Message.TheVariants as msg
use Rattle.table.specs.Formed.{due, names}
use Rattle.rules.specs.Work.{Work, send, join}
use Rattle.rules.specs.Rules.{hold, want, is_empty, ask_with, ask_without, ask, upgrade, hand_back}
use Rattle.facts.specs.Rooms.{RoomFacts}
use Rattle.facts.specs.Due.{due-none, due-held, due-wanted}
use Rattle.facts.specs.Moments.{QueuedFacts}
use Rattle.kept.specs.Changed.{changed-same}
use Rattle.kept.specs.Moment.{empty}
use Rattle.kept.specs.Records.{modes-facts}
use Rattle.kept.specs.Acts.{At, Whole, now, only, own_room, own-names, set-alike, set-unnamed, put-joined}
use Rattle.kept.specs.Sends.{put-request}
use Rattle.kept.specs.Turns.{waits_one}
use Rattle.kept.specs.Serve.{settle-or-serve-kept}

module _ (n : ℕ) (rooms : ℕ → Room) (kept : List Wire) (w : Work) (a : Whole n rooms kept w) (idle : w.room.wanted ≡ 0) where
  facts : RoomFacts n w.me w.room
  facts = own_room n rooms kept w empty 0 a

  -- x, which does not wait, holds m from now on, and still does not wait
  hold-kept : (m : ℕ) → m ≤ W → (m ≡ U → w.room.token ≡ true) → (m ≡ W → w.room.token ≡ true)
      → Whole n rooms kept (hold w m)
  unfolding hold
  hold-kept m code u v =
      set-alike n rooms kept w empty 0 a (with_modes w.room m 0)
      (modes-facts n w.me w.room facts m 0 code (omega arith) u v (λ p z. absurd (z refl)))
      a.long (due-none (with_modes w.room m 0) refl ∙ sym (due-none w.room idle)) refl

  module _ (free : w.room.held ≡ 0) (m : ℕ) (some : 1 ≤ m) (code : m ≤ W) where
    -- x wants m from now on, with its name in hand
    want_kept : At n rooms kept (want w m) (only w.me) 0
    unfolding want
    want_kept =
        set-unnamed n rooms kept w empty 0 a wanting
        (modes-facts n w.me w.room facts w.room.held m (omega arith) code facts.U-token facts.W-token (λ p z. absurd (p free)))
        a.long unnamed (only w.me) 0 (λ c l e. ap one (ne_eqb w.me c (λ k. e (sym k))))
        (ap one (eq-eqb w.me w.me refl) ∙ sym (waits_one wanting m (due-wanted wanting free) some)) refl
      where
        wanting : Room
        wanting = with_modes w.room w.room.held m

        unnamed : names w.queue (kept ++ w.sent) w.me ≡ 0
        unnamed = omega (arith, own-names n rooms kept w empty 0 a, ap (λ (d : ℕ). one (ltb 0 d)) (due-none w.room idle))

    want-due : due (now rooms (want w m) w.me) ≡ m
    unfolding want
    want-due = ap due (changed-same rooms w.me (want w m).room) ∙ due-wanted (with_modes w.room w.room.held m) free

    want-named : QueuedFacts n (now rooms (want w m)) (record { room = w.me; mode = m })
    want-named = record { low = a.low; some = some; code = code; waits = want-due }

    -- "With the token: if the queue is empty and m agrees with owned, x holds m; else x wants m and joins the end of the queue."
    ask-with-kept : w.room.token ≡ true → Whole n rooms kept (ask_with w m)
    unfolding ask_with want
    ask-with-kept with =
        by-test (Whole n rooms kept) (is_empty w.queue && agrees m (owned w.room)) (hold w m) (join (want w m) w.me m)
        (λ e. hold-kept m code (λ u. with) (λ u. with))
        (λ e. put-joined n rooms kept (want w m) (only w.me) 0 want_kept w.me m empty
        want-named (λ c l. omega arith))

    -- "Without it: if owned can lend m, x holds m and nothing is sent; else x wants m and sends REQUEST to toward."
    ask-without-kept : w.room.token ≡ false → Whole n rooms kept (ask_without w m)
    unfolding ask_without want
    ask-without-kept without =
        by-test (Whole n rooms kept) (can_lend (owned w.room) m) (hold w m) (send (want w m) w.room.toward (msg.Request w.me m (eqb (owned w.room) 0)))
        (λ e. let weak = small-weak m (lends-small (owned w.room) m e) in
        hold-kept m code (λ u. absurd (weak.0 u)) (λ u. absurd (weak.1 u)))
        (λ e. put-request n rooms kept (want w m) w.room.toward facts.toward-low (λ k. clash (facts.toward-token k) without)
        w.me m (eqb (owned w.room) 0) want-named
        (rw (changed-same rooms w.me (want w m).room) without) want_kept)

    pub ask-kept : Whole n rooms kept (ask w m)
    unfolding ask
    ask-kept = by-test (Whole n rooms kept) w.room.token (ask_with w m) (ask_without w m) ask-with-kept ask-without-kept

  -- "UPGRADE(x). x holds U. With no entries it holds W; else it wants W and waits, ahead of the queue."
  pub upgrade-kept : w.room.held ≡ U → Whole n rooms kept (upgrade w)
  unfolding upgrade want
  upgrade-kept holds =
      by-test (Whole n rooms kept) (has_no_entries w.room) (hold w W) (want w W)
      (λ e. hold-kept W (omega arith) (λ u. facts.U-token holds) (λ u. facts.U-token holds))
      (λ e. set-alike n rooms kept w empty 0 a (with_modes w.room w.room.held W)
      (modes-facts n w.me w.room facts w.room.held W (omega arith) (omega arith) facts.U-token facts.W-token (λ p z. (holds, refl)))
      a.long (due-held (with_modes w.room w.room.held W) held ∙ sym (due-held w.room held)) refl)
    where
      held : w.room.held ≢ 0
      held z = omega arith

  -- "HANDBACK(x). Held becomes none. Then settle or serve."
  pub handed-kept : Whole n rooms kept (hold w 0)
  handed-kept = hold-kept 0 (omega arith) (λ u. absurd (omega arith)) (λ u. absurd (omega arith))

  pub hand-back-kept : Whole n rooms kept (hand_back w)
  unfolding hand_back
  hand-back-kept = settle-or-serve-kept n rooms kept (hold w 0) handed-kept
