-- "Serve (with the token)": every turn keeps a moment whole, and so does the loop over the queue.
use Rattle.std.specs.Prelude.{◌≡◌, true, not, ◌&&◌, ℕ, eqb}
use Rattle.std.proofs.Math.Path.{refl, sym}
use Rattle.std.proofs.Common.{◌∙◌, arith, eqb-true}
use mathlib.Core.List.{List, [], ◌∷◌}
use Rattle.std.proofs.lemmas.Bool.{eqb-false, not-false}
use Rattle.base.specs.Choice.{by-test}
use Rattle.base.specs.Tests.{and_left}
use Rattle.modes.specs.Codes.{W}
use Rattle.modes.specs.Modes.{agrees, can_lend}
use Rattle.room.specs.declared.Room.{Room}
use Rattle.room.specs.Record.{with_modes}
use Rattle.room.specs.Owned.{owned, has_no_entries}
use Rattle.room.specs.Rules.{lent, lent_to}
use Rattle.table.specs.declared.Wire.{Wire}
use Rattle.table.specs.declared.Queued.{Queued}
use Rattle.table.specs.Formed.{due}
use Rattle.rules.specs.Work.{Work, with_queue, send}
use Rattle.rules.specs.Rules.{hold, lend, settle, upgrade_waits, upgraded, serve_queue, serve, settle_or_serve}
use Rattle.facts.specs.Rooms.{RoomFacts}
use Rattle.facts.specs.Due.{due-none, upgrade-due}
use Rattle.kept.specs.Moment.{empty}
use Rattle.kept.specs.Records.{modes-facts}
use Rattle.kept.specs.Acts.{Whole, own_room, set-alike}
use Rattle.kept.specs.Settle.{settle-kept}
use Rattle.kept.specs.Turns.{turn-self, turn-lend, turn-pass}

module _ (n : ℕ) (rooms : ℕ → Room) (kept : List Wire) where
  -- "while no upgrade waits and the head of the queue agrees with owned, take it off"
  queue-kept : (queue : List Queued) (w : Work) → w.room.token ≡ true → Whole n rooms kept (with_queue w queue)
      → Whole n rooms kept (serve_queue w queue)
  unfolding serve_queue hold lend send lent lent_to
  queue-kept [] w with a = a
  queue-kept (q ∷ rest) w with a =
      by-test (Whole n rooms kept) (upgrade_waits w.room) _ _ (λ u. a) λ u.
      by-test (Whole n rooms kept) (not (agrees (owned w.room) q.mode)) _ _ (λ c. a) λ c.
      by-test (Whole n rooms kept) (eqb q.room w.me) _ _
      (λ e. queue-kept rest (hold w q.mode) with (turn-self n rooms kept w q rest a with (eqb-true _ _ e))) λ e.
      by-test (Whole n rooms kept) (can_lend (owned w.room) q.mode) _ _
      (λ l. queue-kept rest (lend w q.room q.mode) with (turn-lend n rooms kept w q rest a with (eqb-false _ _ e) l)) λ l.
      turn-pass n rooms kept w q rest a with (eqb-false _ _ e) (not-false _ c) l

  module _ (w : Work) (a : Whole n rooms kept w) where
    -- "a waiting upgrade with no entries becomes a held W": it was not named before and is not after
    pub upgraded-kept : w.room.token ≡ true → Whole n rooms kept (with_queue (upgraded w) w.queue)
    unfolding upgraded hold
    upgraded-kept with =
        by-test (λ (v : Work). Whole n rooms kept (with_queue v w.queue)) (upgrade_waits w.room && has_no_entries w.room) (hold w W) w
        (λ e. set-alike n rooms kept w empty 0 a (with_modes w.room W 0) facts a.long (due-none (with_modes w.room W 0) refl ∙ sym (none e)) refl)
        (λ e. a)
      where
        facts : RoomFacts n w.me (with_modes w.room W 0)
        facts = modes-facts n w.me w.room (own_room n rooms kept w empty 0 a) W 0 (omega arith) (omega arith) (λ e. with) (λ e. with) (λ p z. absurd (z refl))

        none : (upgrade_waits w.room && has_no_entries w.room) ≡ true → due w.room ≡ 0
        none e = upgrade-due w.room (and_left (upgrade_waits w.room) _ e)

    pub upgraded-token : w.room.token ≡ true → (upgraded w).room.token ≡ true
    unfolding upgraded hold
    upgraded-token with = by-test (λ (v : Work). v.room.token ≡ true) (upgrade_waits w.room && has_no_entries w.room) (hold w W) w (λ e. with) (λ e. with)

    pub serve-kept : w.room.token ≡ true → Whole n rooms kept (serve w)
    unfolding serve
    serve-kept with = queue-kept w.queue (upgraded w) (upgraded-token with) (upgraded-kept with)

    -- "Then settle or serve."
    pub settle-or-serve-kept : Whole n rooms kept (settle_or_serve w)
    unfolding settle_or_serve
    settle-or-serve-kept = by-test (Whole n rooms kept) w.room.token (serve w) (settle w) serve-kept (settle-kept n rooms kept w a)
