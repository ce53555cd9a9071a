-- "Settle (without the token)" keeps a moment whole.
use Rattle.std.specs.Prelude.{◌≡◌, refl, ◌≢◌, false, List, ℕ, ◌<◌}
use Rattle.std.proofs.Common.{arith}
use Rattle.std.proofs.Common.{subst, sym}
use Rattle.std.specs.Prelude.{Option, None}
use Rattle.modes.proofs.Laws.{stronger-true}
use Rattle.room.specs.declared.Room.{Room}
use Rattle.room.specs.declared.Changed.{Changed}
use Rattle.room.proofs.Lenders.{lends, lends-other}
use Rattle.room.specs.Record.{with_debt, lender_of}
use Rattle.room.specs.Owned.{owned}
use Rattle.room.specs.Rules.{credited}
use Rattle.table.specs.declared.Wire.{Wire}
use Rattle.rules.specs.Work.{Work, with_room, change, send_out}
use Rattle.rules.specs.Rules.{settle}
use Rattle.facts.specs.Rooms.{RoomFacts, owned-code}
use Rattle.facts.specs.Due.{due-same}
use Rattle.facts.specs.Cases.{credited-either, settled-either}
use Rattle.kept.specs.Moment.{empty}
use Rattle.kept.specs.Records.{free-facts, owing-facts}
use Rattle.kept.specs.Acts.{Whole, own_room, set-alike}
use Rattle.kept.specs.Sends.{put-reduce}

module _ (n : ℕ) (rooms : ℕ → Room) (kept : List Wire) (w : Work) (a : Whole n rooms kept w) (without : w.room.token ≡ false) where
  facts : RoomFacts n w.me w.room
  facts = own_room n rooms kept w empty 0 a

  -- what is owed has a lender
  has-lender : owned w.room < w.room.credit → w.room.lender ≢ None
  has-lender h e = omega (arith, facts.nobody-none e)

  other : owned w.room < w.room.credit → lender_of w.room ≢ w.me
  other h = lends-other w.room w.me (has-lender h) facts.lender-other

  -- "credit becomes owned, and at none the lender is nobody"
  owing-less : owned w.room < w.room.credit → Whole n rooms kept (with_room w (credited w.room (owned w.room)))
  owing-less h =
      credited-either w.room (owned w.room) (λ (r : Room). Whole n rooms kept (with_room w r))
      (λ e. rw e (set-alike n rooms kept w empty 0 a _ (free-facts n w.me w.room facts a.low a.small) a.long (due-same w.room _ refl refl) refl))
      (λ e. set-alike n rooms kept w empty 0 a _ (owing e) a.long (due-same w.room _ refl refl) refl)
    where
      owing : owned w.room ≢ 0 → RoomFacts n w.me (with_debt w.room w.room.lender (owned w.room) w.room.link)
      owing e =
          subst (λ (o : Option ℕ). RoomFacts n w.me (with_debt w.room o (owned w.room) w.room.link)) (sym (lends w.room (has-lender h)))
          (owing-facts n w.me w.room facts (lender_of w.room) (owned w.room) w.room.link a.small (facts.lender-low (has-lender h))
          (other h) (omega arith) (owned-code n w.me w.room facts) without)

  pub settle-kept : Whole n rooms kept (settle w)
  unfolding settle send_out
  settle-kept =
      settled-either w.room (λ (c : Changed). Whole n rooms kept (change w c))
      (λ e. let h : owned w.room < w.room.credit = stronger-true w.room.credit (owned w.room) e in
      put-reduce n rooms kept (with_room w (credited w.room (owned w.room))) (lender_of w.room) (facts.lender-low (has-lender h))
      (other h) w.room.link (owned w.room) (owned-code n w.me w.room facts) (owing-less h))
      (λ e. a)
