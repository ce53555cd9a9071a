-- Settling costs nothing, and a hand-back lowers the measure.
use Rattle.std.specs.Prelude.{◌≡◌, ◌≢◌}
use Rattle.std.proofs.Common.{sym, ◌∙◌, ap}
use mathlib.Core.List.{List, [], ◌∷◌, ◌++◌, append_assoc}
use Prim.Native.Nat.{ℕ, ◌≤◌, ◌<◌}
use native.Mathlib.Omega.{arith}
use Rattle.base.specs.Choice.{by-test}
use Rattle.room.specs.declared.Room.{Room}
use Rattle.room.specs.declared.Changed.{Changed}
use Rattle.room.specs.Record.{with_modes, lender_of}
use Rattle.room.specs.Owned.{owned}
use Rattle.room.specs.Rules.{credited}
use Rattle.table.specs.declared.Wire.{Wire}
use Rattle.table.specs.declared.Message.TheVariants as msg
use Rattle.rules.specs.Work.{Work, send, send_out, change}
use Rattle.rules.specs.Rules.{hold, settle, serve, settle_or_serve, hand_back}
use Rattle.facts.specs.Wires.{wire}
use Rattle.facts.specs.Cases.{settled-either}
use Rattle.kept.specs.Changed.{changed, changed-same, changed-elsewhere}
use Rattle.kept.specs.Acts.{now}
use Rattle.owning.proofs.Exact.{settle-weak}
use Rattle.measure.specs.Way.{Leads}
use Rattle.measure.specs.Measure.{potential}
use Rattle.measure.specs.Heights.{leads-modes, leads-settle}
use Rattle.measure.proofs.Falls.{falls-handed, not-more-settle}
use Rattle.safe.specs.Done.{Done}
use Rattle.safe.specs.Settle.{Owing}
use Rattle.safe.specs.HandBacks.{handed-owing}
use Rattle.drain.specs.Weighs.{Rests, weighs-serve}

-- after what a room has done some heights lead to the token, and the measure by them is below b
pub record Lower (n : ℕ) (rooms : ℕ → Room) (kept : List Wire) (b : ℕ) (w : Work) : Type 0 where
  pub height : ℕ → ℕ
  pub leads : Leads n (now rooms w) (kept ++ w.sent) height
  pub less : potential n (now rooms w) w.queue (kept ++ w.sent) 0 height < b

pub lower : (n : ℕ) (rooms : ℕ → Room) (kept : List Wire) (height : ℕ → ℕ) (a b : ℕ) (w : Work) → a < b → Rests n rooms kept height a w
    → Lower n rooms kept b w
lower n rooms kept height a b w h r = record { height = height; leads = r.leads; less = omega (arith, r.within) }

module _ (n : ℕ) (rooms : ℕ → Room) (kept : List Wire) (height : ℕ → ℕ) (b : ℕ) (w : Work) where
  -- "Settle (without the token)": the level that falls pays for the REDUCE
  pub weighs-settle : Owing n rooms kept w → Rests n rooms kept height b w → Rests n rooms kept height b (settle w)
  unfolding settle send_out send
  weighs-settle a r =
      settled-either w.room (λ (c : Changed). Rests n rooms kept height b (change w c))
      (λ falls. record {
        leads =
            rw (← append_assoc kept w.sent (reduce ∷ []))
            (rw at-me at (leads-settle n old new (kept ++ w.sent) w.me others height r.leads now-paid));
        within =
            rw (← append_assoc kept w.sent (reduce ∷ []))
            (omega (
              arith,
              r.within,
              rw at-me at (not-more-settle n old new (kept ++ w.sent) w.me a.whole.low others w.queue 0 height
                  (settle-weak w.me n old a.exact (rw at-me falls)) (rw at-me falls) now-paid),
            ));
      })
      (λ still. record { leads = r.leads; within = r.within })
    where
      own : ℕ
      own = owned w.room

      paid : Room
      paid = credited w.room (owned w.room)

      reduce : Wire
      reduce = wire w.me (lender_of w.room) (msg.Reduce w.room.link (owned w.room))

      old : ℕ → Room
      old = now rooms w

      new : ℕ → Room
      new = changed rooms w.me (credited w.room (owned w.room))

      at-me : now rooms w w.me ≡ w.room
      at-me = changed-same rooms w.me w.room

      others : (c : ℕ) → c ≢ w.me → new c ≡ old c
      others c e = changed-elsewhere rooms w.me paid w.room c e

      now-paid : new w.me ≡ credited (old w.me) (owned (old w.me))
      now-paid = changed-same rooms w.me paid ∙ sym (ap (λ (r : Room). credited r (owned r)) at-me)

-- "HANDBACK(x)": one room less holds
pub hand-back-lower : (n : ℕ) (rooms : ℕ → Room) (kept : List Wire) (w : Work) → Done n rooms kept w → w.room.wanted ≡ 0 → w.room.held ≢ 0
    → (height : ℕ → ℕ) → Leads n (now rooms w) (kept ++ w.sent) height
    → Lower n rooms kept (potential n (now rooms w) w.queue (kept ++ w.sent) 0 height) (hand_back w)
unfolding hand_back settle_or_serve hold
hand-back-lower n rooms kept w a idle holds height leads =
    by-test (Lower n rooms kept before) w.room.token (serve (hold w 0)) (settle (hold w 0))
    (λ with. lower n rooms kept height now-weighs before (serve (hold w 0)) falls (weighs-serve n rooms kept height now-weighs (hold w 0) a.whole.low handed))
    (λ without. lower n rooms kept height now-weighs before (settle (hold w 0)) falls
    (weighs-settle n rooms kept height now-weighs (hold w 0) (handed-owing n rooms kept w a idle without) handed))
  where
    before : ℕ
    before = potential n (now rooms w) w.queue (kept ++ w.sent) 0 height

    given : Room
    given = with_modes w.room 0 0

    new : ℕ → Room
    new = changed rooms w.me given

    others : (c : ℕ) → c ≢ w.me → new c ≡ now rooms w c
    others c e = changed-elsewhere rooms w.me given w.room c e

    at-me : now rooms w w.me ≡ w.room
    at-me = changed-same rooms w.me w.room

    modes : new w.me ≡ with_modes (now rooms w w.me) 0 0
    modes = changed-same rooms w.me given ∙ sym (ap (λ (r : Room). with_modes r 0 0) at-me)

    some : 1 ≤ (now rooms w w.me).held
    some = rw at-me (omega arith)

    now-weighs : ℕ
    now-weighs = potential n new w.queue (kept ++ w.sent) 0 height

    falls : now-weighs < before
    falls = falls-handed n (now rooms w) new (kept ++ w.sent) w.me a.whole.low others w.queue 0 height 0 modes some

    handed : Rests n rooms kept height now-weighs (hold w 0)
    handed =
        record {
          leads = leads-modes n (now rooms w) new (kept ++ w.sent) w.me others height leads 0 0 modes;
          within = omega arith;
        }
