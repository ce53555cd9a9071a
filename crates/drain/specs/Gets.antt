-- What a delivery or a hand-back does to the modes of the room that acts: it wants what it wanted, or has been given that mode.
use Rattle.std.specs.Prelude.{◌≡◌, ◌⊎◌, Bool, true, ◌&&◌, ℕ, ◌≤◌, eqb}
use Rattle.std.proofs.Math.Path.{refl, ap, subst⁻¹}
use Rattle.std.proofs.Common.{sym, ◌∙◌, inr, ⊎_elim, arith, eqb-true}
use Rattle.std.proofs.Math.Logic.{inl}
use Rattle.std.proofs.Math.Bool.{not}
use mathlib.Core.List.Memᴰ
use mathlib.Core.List.{List, [], ◌∷◌}
use Rattle.std.proofs.lemmas.Bool.{eqb-false}
use Rattle.base.specs.Choice.{by-test}
use Rattle.base.specs.Tests.{and_left, and_right}
use Rattle.base.specs.Sums.{one}
use Rattle.modes.specs.Codes.{U, W}
use Rattle.modes.specs.Modes.{agrees, can_lend}
use Rattle.std.specs.Prelude.{Option}
use Rattle.room.specs.declared.Room.{Room}
use Rattle.room.specs.declared.Reduce.{Reduce}
use Rattle.room.specs.declared.Changed.{Changed}
use Rattle.room.specs.Record.{with_modes, with_debt, lender_in}
use Rattle.room.specs.Owned.{owned, has_no_entries}
use Rattle.room.specs.Rules.{lent, lent_to, left, passed, passed_to, credited, leaving, granted, tokened, tokened_by, reduced}
use Rattle.table.specs.declared.Wire.{Wire}
use Rattle.table.specs.declared.Queued.{Queued}
use Rattle.table.specs.declared.Message.{Message}
use Rattle.table.specs.declared.Message.TheVariants as msg
use Rattle.table.specs.Formed.{due, is_token, is_named_in}
use Rattle.rules.specs.Work.{Work, with_room, with_queue, send, join, send_out, change}
use Rattle.rules.specs.Rules.{hold, lend, pass, settle, upgrade_waits, upgraded, serve_queue, serve, settle_or_serve, hand_back, take_request, receive}
use Rattle.facts.specs.Moments.{QueuedFacts}
use Rattle.facts.specs.Messages.{proper}
use Rattle.facts.specs.Due.{due-wants}
use Rattle.facts.specs.Wires.{wire, sent-out}
use Rattle.kept.specs.Changed.{changed-same}
use Rattle.kept.specs.Moment.{Right, empty}
use Rattle.kept.specs.Acts.{At, Whole, now, only, put-joined}
use Rattle.kept.specs.Asks.{handed-kept}
use Rattle.kept.specs.Turns.{turn-self, turn-lend}
use Rattle.kept.specs.Serve.{upgraded-kept, upgraded-token}
use Rattle.kept.specs.Delivers.{arrived-kept, reduced-kept}
use Rattle.facts.specs.Cases.{passed-either, credited-either, settled-either, reduced-either}

-- of a record before and after: it wants what it wanted, or wants none and holds what it wanted
pub record Gets (r s : Room) : Type 0 where
  pub gets : (s.wanted ≡ r.wanted) ⊎ ((s.wanted ≡ 0) × (s.held ≡ r.wanted))

-- another record with the same modes
alike : (r s v : Room) → v.held ≡ s.held → v.wanted ≡ s.wanted → Gets r s → Gets r v
alike r s v h w g = record { gets = ⊎_elim (λ e. inl (w ∙ e)) (λ p. inr (w ∙ p.0, h ∙ p.1)) g.gets }

-- a mode that is wanted is held
gains : (r s : Room) (m : ℕ) → 1 ≤ m → s.wanted ≡ m → Gets r s → Gets r (with_modes s m 0)
gains r s m some e g = record { gets = inr (refl, sym e ∙ ⊎_elim (λ k. k) (λ p. absurd (omega (arith, p.0))) g.gets) }

-- a pass leaves the modes
passed-gets : (r s : Room) (y : ℕ) → Gets r s → Gets r (passed_to s y)
unfolding left
passed-gets r s y g = passed-either s y (Gets r) (λ e. alike r s _ refl refl g) (λ e. alike r s _ refl refl g)

-- and so does a debt that falls
credited-gets : (r s : Room) (m : ℕ) → Gets r s → Gets r (credited s m)
credited-gets r s m g = credited-either s m (Gets r) (λ e. alike r s _ refl refl g) (λ e. alike r s _ refl refl g)

module _ (n : ℕ) (rooms : ℕ → Room) (kept : List Wire) where
  -- the room that acts, against its record before the step
  abbrev Got : Work → Type 0
  Got w = Gets (rooms w.me) w.room

  sent-got : (w : Work) (s : Option Reduce) → Got w → Got (send_out w s)
  sent-got w s g = subst⁻¹ Got (sent-out w s) g

  -- "Settle (without the token)"
  settle-got : (w : Work) → Got w → Got (settle w)
  unfolding settle
  settle-got w g =
      settled-either w.room (λ (c : Changed). Got (change w c))
      (λ e. sent-got (with_room w (credited w.room (owned w.room))) _ (credited-gets (rooms w.me) w.room (owned w.room) g))
      (λ e. sent-got w _ g)

  -- the room that acts wants the mode that it waits for
  own-wants : (w : Work) (m : ℕ) → due (now rooms w w.me) ≡ m → 1 ≤ m → w.room.wanted ≡ m
  own-wants w m e some = (due-wants w.room m (ap due (sym (changed-same rooms w.me w.room)) ∙ e) some).0

  -- "if it is the room itself, it holds the mode and wants none": the mode that it wanted
  self-got : (w : Work) (q : Queued) (rest : List Queued) → Whole n rooms kept (with_queue w (q ∷ rest)) → q.room ≡ w.me → Got w → Got (hold w q.mode)
  unfolding hold
  self-got w q rest a self g =
      gains (rooms w.me) w.room q.mode head.some (own-wants w q.mode (ap (λ (c : ℕ). due (now rooms w c)) (sym self) ∙ head.waits) head.some) g
    where
      head : QueuedFacts n (now rooms w) q
      head = a.moment.queued q (Memᴰ.head refl)

  -- "while no upgrade waits and the head of the queue agrees with owned, take it off"
  queue-got : (queue : List Queued) (w : Work) → w.room.token ≡ true → Whole n rooms kept (with_queue w queue) → Got w → Got (serve_queue w queue)
  unfolding serve_queue hold lend pass send lent lent_to passed
  queue-got [] w with a g = g
  queue-got (q ∷ rest) w with a g =
      by-test Got (upgrade_waits w.room) _ _ (λ u. g) λ u.
      by-test Got (not (agrees (owned w.room) q.mode)) _ _ (λ c. g) λ c.
      by-test Got (eqb q.room w.me) _ _
      (λ e. queue-got rest (hold w q.mode) with (turn-self n rooms kept w q rest a with (eqb-true _ _ e)) (self-got w q rest a (eqb-true _ _ e) g)) λ e.
      by-test Got (can_lend (owned w.room) q.mode) _ _
      (λ l. queue-got rest (lend w q.room q.mode) with (turn-lend n rooms kept w q rest a with (eqb-false _ _ e) l)
      (alike (rooms w.me) w.room _ refl refl g)) λ l.
      passed-gets (rooms w.me) w.room q.room g

  -- "a waiting upgrade with no entries becomes a held W"
  upgraded-got : (w : Work) → Got w → Got (upgraded w)
  unfolding upgraded upgrade_waits hold
  upgraded-got w g =
      by-test Got (upgrade_waits w.room && has_no_entries w.room) (hold w W) w
      (λ e. gains (rooms w.me) w.room W (omega arith) (eqb-true _ _ (and_right (eqb w.room.held U) _ (and_left (upgrade_waits w.room) _ e))) g)
      (λ e. g)

  -- "Serve (with the token)"
  serve-got : (w : Work) → w.room.token ≡ true → Whole n rooms kept w → Got w → Got (serve w)
  unfolding serve
  serve-got w with a g = queue-got w.queue (upgraded w) (upgraded-token n rooms kept w a with) (upgraded-kept n rooms kept w a with) (upgraded-got w g)

  -- "Then settle or serve."
  settle-or-serve-got : (w : Work) → Whole n rooms kept w → Got w → Got (settle_or_serve w)
  unfolding settle_or_serve
  settle-or-serve-got w a g = by-test Got w.room.token (serve w) (settle w) (λ with. serve-got w with a g) (λ without. settle-got w g)

  -- a room that has done nothing yet
  module _ (w : Work) (begun : w.room ≡ rooms w.me) where
    got : Got w
    got = record { gets = inl (ap (λ (r : Room). r.wanted) begun) }

    -- "HANDBACK(x). Held becomes none. Then settle or serve."
    pub hand-back-got : Whole n rooms kept w → w.room.wanted ≡ 0 → Got (hand_back w)
    unfolding hand_back hold
    hand-back-got a idle =
        settle-or-serve-got (hold w 0) (handed-kept n rooms kept w a idle)
        (record { gets = inl (sym idle ∙ ap (λ (r : Room). r.wanted) begun) })

    -- "REQUEST": it joins the queue, then serve; or is lent to, then settle; or is sent on
    request-got : (o m : ℕ) (idle : Bool) → QueuedFacts n (now rooms w) (record { room = o; mode = m }) → At n rooms kept w (only o) 0
        → Got (take_request w o m idle)
    unfolding take_request join lend send lent lent_to
    request-got o m idle facts a =
        by-test Got w.room.token _ _
        (λ with. serve-got (join w o m) with (put-joined n rooms kept w (only o) 0 a o m empty facts (λ c l. omega arith)) got) λ without.
        by-test Got (idle && not (eqb o w.me) && can_lend (owned w.room) m) _ _
        (λ e. settle-got (lend w o m) (alike (rooms w.me) w.room _ refl refl got))
        (λ e. got)

    -- "held the mode, wanted none": the mode that it wanted
    module _ (a m : ℕ) (some : 1 ≤ m) (waits : due (now rooms w w.me) ≡ m) where
      given : Gets (rooms w.me) (with_modes w.room m 0)
      given = gains (rooms w.me) w.room m some (own-wants w m waits some) got

      grant-got : (l : ℕ) → Got (change w (granted w.room a m l))
      unfolding granted
      grant-got l = sent-got (with_room w (with_debt (with_modes w.room m 0) (lender_in a) m l)) (leaving w.room a) (alike (rooms w.me) (with_modes w.room m 0) _ refl refl given)

      token-got : (rest l : ℕ) → Whole n rooms kept (change w (tokened w.room w.me a m rest l))
          → Got (serve (change w (tokened w.room w.me a m rest l)))
      unfolding tokened tokened_by
      token-got rest l whole =
          serve-got (change w (tokened w.room w.me a m rest l)) (ap (λ (v : Work). v.room.token) (sent-out (with_room w rooted) (leaving w.room a))) whole
          (sent-got (with_room w rooted) (leaving w.room a) (alike (rooms w.me) (with_modes w.room m 0) rooted refl refl given))
        where
          rooted : Room
          rooted = tokened_by w.room w.me a m rest l

    -- whatever the message is
    pub receive-got : (a : ℕ) (m : Message) → Right n (now rooms w) (wire a w.me m)
        → At n rooms kept w (λ c. one (is_named_in c w.me m)) (one (is_token m)) → Got (receive w a m)
    unfolding receive is_named_in is_token
    receive-got a msg.Nothing r t = got
    receive-got a (msg.Request o m idle) r t = request-got o m idle (proper r.facts) t
    receive-got a (msg.Grant m l) r t = grant-got a m (proper r.facts).some (proper r.facts).waits l
    receive-got a (msg.Token m rest l) r t =
        token-got a m (proper r.facts).some (proper r.facts).waits rest l
        (arrived-kept n rooms kept w a r.facts.from_low r.facts.apart m rest l (proper r.facts) t)
    receive-got a (msg.Reduce l m) r t =
        settle-or-serve-got (with_room w (reduced w.room a l m))
        (reduced-kept n rooms kept w a r.facts.from_low r.facts.apart l m (proper r.facts) t)
        (reduced-either w.room a l m (Gets (rooms w.me)) (λ e. alike (rooms w.me) w.room _ refl refl got) (λ e. got))
