-- Serving costs nothing: each turn leaves the measure where it was, or lower, and the heights as they were.
use Rattle.std.specs.Prelude.{◌≡◌, refl, ◌≢◌, true, not, ◌&&◌, ℕ, ◌≤◌, ◌<◌, eqb}
use Rattle.std.proofs.Common.{sym, ◌∙◌, ap, eqb-true}
use mathlib.Core.List.{List, [], ◌∷◌, ◌++◌, append_assoc}
use native.Mathlib.Omega.{arith}
use Rattle.base.specs.Choice.{by-test}
use Rattle.base.specs.Tests.{and_left}
use Rattle.modes.specs.Codes.{U, W}
use Rattle.modes.specs.Modes.{agrees, can_lend}
use Rattle.room.specs.declared.Room.{Room}
use Rattle.room.specs.Record.{with_modes}
use Rattle.room.specs.Owned.{owned, has_no_entries}
use Rattle.room.specs.Rules.{next_link, lent, lent_to, passed, passed_to, remaining}
use Rattle.table.specs.declared.Wire.{Wire}
use Rattle.table.specs.declared.Queued.{Queued}
use Rattle.table.specs.declared.Message.TheVariants as msg
use Rattle.rules.specs.Work.{Work, with_queue, send}
use Rattle.rules.specs.Rules.{hold, lend, pass, upgrade_waits, upgraded, serve_queue, serve}
use Rattle.facts.specs.Wires.{wire}
use Rattle.kept.specs.Changed.{changed, changed-same, changed-elsewhere}
use Rattle.kept.specs.Acts.{now}
use Rattle.measure.specs.Way.{Leads}
use Rattle.measure.specs.Measure.{potential}
use Rattle.measure.specs.Heights.{leads-modes, leads-lend, leads-pass}
use Rattle.measure.proofs.Moves.{potential-head-taken}
use Rattle.measure.proofs.Falls.{falls-self, same-upgraded, not-more-lend, not-more-pass}

-- What a room has done so far, with the queue that is still to be served: the heights lead to the token, and the measure is at most b.
pub record Weighs (n : ℕ) (rooms : ℕ → Room) (kept : List Wire) (height : ℕ → ℕ) (b : ℕ) (w : Work) (queue : List Queued) : Type 0 where
  pub leads : Leads n (now rooms w) (kept ++ w.sent) height
  pub within : potential n (now rooms w) queue (kept ++ w.sent) 0 height ≤ b

module _ (n : ℕ) (rooms : ℕ → Room) (kept : List Wire) (height : ℕ → ℕ) (b : ℕ) where
  abbrev pub Rests : Work → Type 0
  Rests w = Weighs n rooms kept height b w w.queue

  -- with another record of the room that acts
  module _ (w : Work) (r : Room) where
    here : changed rooms w.me r w.me ≡ r
    here = changed-same rooms w.me r

    others : (c : ℕ) → c ≢ w.me → changed rooms w.me r c ≡ now rooms w c
    others c e = changed-elsewhere rooms w.me r w.room c e

  own : (w : Work) → now rooms w w.me ≡ w.room
  own w = changed-same rooms w.me w.room

  -- "if it is the room itself, it holds the mode and wants none"
  weighs-self : (w : Work) (q : Queued) (rest : List Queued) → w.me < n → Weighs n rooms kept height b w (q ∷ rest)
      → Weighs n rooms kept height b (hold w q.mode) rest
  unfolding hold
  weighs-self w q rest low a =
      record {
        leads = leads-modes n (now rooms w) new (kept ++ w.sent) w.me (others w held) height a.leads q.mode 0 modes;
        within = omega (
          arith,
          a.within,
          falls-self n (now rooms w) new (kept ++ w.sent) w.me low (others w held) rest 0 height q.mode 0 modes,
          potential-head-taken n (now rooms w) rest (kept ++ w.sent) 0 height q,
        );
      }
    where
      held : Room
      held = with_modes w.room q.mode 0

      new : ℕ → Room
      new = changed rooms w.me held

      modes : new w.me ≡ with_modes (now rooms w w.me) q.mode 0
      modes = here w held ∙ sym (ap (λ (r : Room). with_modes r q.mode 0) (own w))

  -- "if owned can lend it, lend"
  weighs-lend : (w : Work) (q : Queued) (rest : List Queued) → w.me < n → Weighs n rooms kept height b w (q ∷ rest)
      → Weighs n rooms kept height b (lend w q.room q.mode) rest
  unfolding lend send lent
  weighs-lend w q rest low a =
      record {
        leads =
            rw (← append_assoc kept w.sent (grant ∷ []))
            (rw (own w) at (leads-lend n (now rooms w) new (kept ++ w.sent) w.me (others w after) height a.leads q.room q.mode lending));
        within =
            rw (← append_assoc kept w.sent (grant ∷ []))
            (omega (
              arith,
              a.within,
              rw (own w) at (not-more-lend n (now rooms w) new (kept ++ w.sent) w.me low (others w after) rest 0 height q.room q.mode lending),
              potential-head-taken n (now rooms w) rest (kept ++ w.sent) 0 height q,
            ));
      }
    where
      after : Room
      after = lent_to w.room q.room q.mode

      grant : Wire
      grant = wire w.me q.room (msg.Grant q.mode (next_link w.room.counter))

      new : ℕ → Room
      new = changed rooms w.me after

      lending : new w.me ≡ lent_to (now rooms w w.me) q.room q.mode
      lending = here w after ∙ sym (ap (λ (r : Room). lent_to r q.room q.mode) (own w))

  -- "else pass and stop"
  weighs-pass : (w : Work) (q : Queued) (rest : List Queued) → w.me < n → Weighs n rooms kept height b w (q ∷ rest)
      → Weighs n rooms kept height b (pass (with_queue w rest) q.room q.mode) rest
  unfolding pass send passed
  weighs-pass w q rest low a =
      record {
        leads =
            rw (← append_assoc kept w.sent (token ∷ []))
            (rw (own w) at (leads-pass n (now rooms w) new (kept ++ w.sent) w.me (others w after) height a.leads q.room q.mode));
        within =
            rw (← append_assoc kept w.sent (token ∷ []))
            (omega (
              arith,
              a.within,
              rw (own w) at (not-more-pass n (now rooms w) new (kept ++ w.sent) w.me low (others w after) rest 0 height q.room q.mode passing),
              potential-head-taken n (now rooms w) rest (kept ++ w.sent) 0 height q,
            ));
      }
    where
      after : Room
      after = passed_to w.room q.room

      token : Wire
      token = wire w.me q.room (msg.Token q.mode (remaining w.room q.room) (next_link w.room.counter))

      new : ℕ → Room
      new = changed rooms w.me after

      passing : new w.me ≡ passed_to (now rooms w w.me) q.room
      passing = here w after ∙ sym (ap (λ (r : Room). passed_to r q.room) (own w))

  stops : (w : Work) (queue : List Queued) → Weighs n rooms kept height b w queue → Rests (with_queue w queue)
  stops w queue a = record { leads = a.leads; within = a.within }

  -- "while no upgrade waits and the head of the queue agrees with owned, take it off"
  weighs-queue : (queue : List Queued) (w : Work) → w.me < n → Weighs n rooms kept height b w queue → Rests (serve_queue w queue)
  unfolding serve_queue hold lend pass send
  weighs-queue [] w low a = stops w [] a
  weighs-queue (q ∷ rest) w low a =
      by-test Rests (upgrade_waits w.room) _ _ (λ u. stops w (q ∷ rest) a) λ u.
      by-test Rests (not (agrees (owned w.room) q.mode)) _ _ (λ c. stops w (q ∷ rest) a) λ c.
      by-test Rests (eqb q.room w.me) _ _ (λ e. weighs-queue rest (hold w q.mode) low (weighs-self w q rest low a)) λ e.
      by-test Rests (can_lend (owned w.room) q.mode) _ _ (λ l. weighs-queue rest (lend w q.room q.mode) low (weighs-lend w q rest low a)) λ l.
      weighs-pass w q rest low a

  -- "a waiting upgrade with no entries becomes a held W"
  weighs-upgraded : (w : Work) → w.me < n → Rests w → Weighs n rooms kept height b (upgraded w) w.queue
  unfolding upgraded hold upgrade_waits
  weighs-upgraded w low a =
      by-test (λ (v : Work). Weighs n rooms kept height b v w.queue) (upgrade_waits w.room && has_no_entries w.room) (hold w W) w
      (λ e. record {
        leads = leads-modes n (now rooms w) new (kept ++ w.sent) w.me (others w held) height a.leads W 0 modes;
        within = omega (
          arith,
          a.within,
          same-upgraded n (now rooms w) new (kept ++ w.sent) w.me low (others w held) w.queue 0 height W 0 modes (some e),
        );
      })
      (λ e. record { leads = a.leads; within = a.within })
    where
      held : Room
      held = with_modes w.room W 0

      new : ℕ → Room
      new = changed rooms w.me held

      modes : new w.me ≡ with_modes (now rooms w w.me) W 0
      modes = here w held ∙ sym (ap (λ (r : Room). with_modes r W 0) (own w))

      -- it holds U
      some : (upgrade_waits w.room && has_no_entries w.room) ≡ true → 1 ≤ (now rooms w w.me).held
      some e = rw (own w) (omega (arith, eqb-true w.room.held U (and_left (eqb w.room.held U) _ (and_left (upgrade_waits w.room) _ e))))

  upgraded-me : (w : Work) → (upgraded w).me ≡ w.me
  unfolding upgraded hold
  upgraded-me w = by-test (λ (v : Work). v.me ≡ w.me) (upgrade_waits w.room && has_no_entries w.room) (hold w W) w (λ e. refl) (λ e. refl)

  pub weighs-serve : (w : Work) → w.me < n → Rests w → Rests (serve w)
  unfolding serve
  weighs-serve w low a = weighs-queue w.queue (upgraded w) (rw (upgraded-me w) low) (weighs-upgraded w low a)
