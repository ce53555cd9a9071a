-- Every delivery lowers the measure, whatever the message is.
use Rattle.std.specs.Prelude.{◌≡◌, refl, ◌≢◌, Bool, true, false, ◌&&◌, List, ◌++◌, ℕ, ◌<◌, eqb}
use Rattle.std.proofs.Common.{sym, ◌∙◌, ap, append-nil, arith}
use Rattle.std.proofs.Math.Path.{subst⁻¹}
use Rattle.std.proofs.Math.Bool.{not}
use Rattle.std.proofs.lemmas.Bool.{eqb-false, not-true}
use Rattle.base.specs.Choice.{by-test}
use Rattle.base.specs.Tests.{and_left, and_right}
use Rattle.base.specs.Sums.{one}
use Rattle.base.specs.Lists.{remove}
use Rattle.std.specs.Prelude.{None}
use Rattle.modes.specs.Modes.{can_lend}
use Rattle.room.specs.declared.Room.{Room}
use Rattle.room.specs.Record.{with_modes, with_debt, lender_in}
use Rattle.room.specs.Owned.{owned}
use Rattle.room.specs.Rules.{lent, lent_to, granted, tokened, tokened_by, reduced}
use Rattle.table.specs.declared.Wire.{Wire}
use Rattle.table.specs.declared.Queued.{Queued}
use Rattle.table.specs.declared.Message.{Message}
use Rattle.table.specs.declared.Message.TheVariants as msg
use Rattle.table.specs.Formed.{tokens, is_token, is_named_in}
use Rattle.rules.specs.Work.{Work, with_room, send, join}
use Rattle.rules.specs.Rules.{lend, settle, serve, settle_or_serve, take_request, receive}
use Rattle.facts.specs.Moments.{QueuedFacts}
use Rattle.facts.specs.Messages.{proper}
use Rattle.facts.specs.Wires.{wire, leaving_sent}
use Rattle.kept.specs.Changed.{changed, changed-same, changed-elsewhere}
use Rattle.kept.specs.Moment.{Right, empty}
use Rattle.kept.specs.Acts.{At, Whole, now, only}
use Rattle.kept.specs.Delivers.{reduced-kept}
use Rattle.ledger.proofs.Takes.{Oldest}
use Rattle.base.specs.Ranks.{rerooted}
use Rattle.measure.specs.Way.{Leads}
use Rattle.measure.specs.Measure.{potential}
use Rattle.measure.specs.Heights.{leads-request-taken, leads-request-sent, leads-lend, leads-grant, leads-token, leads-reduce}
use Rattle.measure.proofs.Moves.{potential-joined, falls-request-taken, falls-sent-on}
use Rattle.measure.proofs.Falls.{not-more-lend, falls-grant, falls-token, falls-reduce}
use Rattle.safe.specs.Invariant.{Invariant}
use Rattle.safe.specs.Heard.{taking, lent-owing}
use Rattle.safe.specs.Delivers.{sending, left-work, reduced-owing}
use Rattle.drain.specs.Weighs.{Rests, weighs-serve}
use Rattle.drain.specs.Lower.{Lower, lower, weighs-settle}

module _ (n : ℕ) (rooms : ℕ → Room) (messages : List Wire) (me : ℕ) (room : Room) (queue : List Queued)
    (inv : Invariant n (now rooms (taking me room queue)) queue messages) (k a : ℕ) (low : me < n) (height : ℕ → ℕ)
    (leads : Leads n (now rooms (taking me room queue)) messages height) where
  abbrev w : Work
  w = taking me room queue

  abbrev old : ℕ → Room
  old = now rooms w

  abbrev kept : List Wire
  kept = remove k messages

  abbrev before : ℕ
  before = potential n old queue messages 0 height

  at-me : old me ≡ room
  at-me = changed-same rooms me room

  -- with another record of the room
  module _ (r : Room) where
    abbrev new : ℕ → Room
    new = changed rooms me r

    here : new me ≡ r
    here = changed-same rooms me r

    others : (c : ℕ) → c ≢ me → new c ≡ old c
    others c e = changed-elsewhere rooms me r room c e

  -- REQUEST
  module _ (o m : ℕ) (idle : Bool) (at : Oldest messages k a me (msg.Request o m idle)) where
    leads-taken : Leads n old kept height
    leads-taken = leads-request-taken n old messages height leads k a me o m idle at.low at.there

    taken-less : potential n old queue kept 1 height < before
    taken-less = falls-request-taken n old queue messages 0 height k a me o m idle at

    -- "it joins the end of the queue, then serve"
    joined-lower : Lower n rooms kept before (serve (join w o m))
    unfolding join
    joined-lower =
        lower n rooms kept height (potential n old queue kept 1 height) before (serve (join w o m)) taken-less
        (weighs-serve n rooms kept height (potential n old queue kept 1 height) (join w o m) low
        (record {
          leads = rw (append-nil kept) leads-taken;
          within = rw (append-nil kept) (omega (arith, potential-joined n old queue kept 0 height (record { room = o; mode = m })));
        }))

    module _ (named : QueuedFacts n old (record { room = o; mode = m })) (tokenless : (old o).token ≡ false) (taken : At n rooms kept w (only o) 0)
        (without : room.token ≡ false) where
      -- "b lends, then settles"
      lent-lower : idle ≡ true → o ≢ me → can_lend (owned room) m ≡ true → Lower n rooms kept before (settle (lend w o m))
      unfolding lend send lent
      lent-lower says other can =
          lower n rooms kept height (potential n old queue kept 1 height) before (settle (lend w o m)) taken-less
          (weighs-settle n rooms kept height (potential n old queue kept 1 height) (lend w o m)
          (lent-owing n rooms messages me room queue inv k a o m idle at named tokenless taken without says other can)
          (record {
            leads = rw at-me at (leads-lend n old (new after) kept me (others after) height leads-taken o m lending);
            within = rw at-me at (not-more-lend n old (new after) kept me low (others after) queue 0 height o m lending);
          }))
        where
          after : Room
          after = lent_to room o m

          lending : new after me ≡ lent_to (old me) o m
          lending = here after ∙ sym (ap (λ (r : Room). lent_to r o m) at-me)

      -- "else b sends it on, unchanged, to toward"
      sent-lower : Lower n rooms kept before (send w room.toward (msg.Request o m idle))
      unfolding send
      sent-lower =
          record {
            height = height;
            leads = leads-request-sent n old kept height leads-taken me room.toward o m idle;
            less =
                rw at-me at (falls-sent-on n old queue messages 0 height k a me o m idle at low (ap (λ (r : Room). r.token) at-me ∙ without) leads
                inv.clauses.sender);
          }

    request-lower : QueuedFacts n old (record { room = o; mode = m }) → (old o).token ≡ false → At n rooms kept w (only o) 0
        → Lower n rooms kept before (take_request w o m idle)
    unfolding take_request
    request-lower named tokenless taken =
        by-test (Lower n rooms kept before) room.token _ _ (λ with. joined-lower) λ without.
        by-test (Lower n rooms kept before) (idle && not (eqb o me) && can_lend (owned room) m) _ _
        (λ e. lent-lower named tokenless taken without (and_left idle _ (and_left _ _ e))
        (eqb-false _ _ (not-true _ (and_right idle _ (and_left _ _ e)))) (and_right (idle && not (eqb o me)) _ e))
        (λ e. sent-lower named tokenless taken without)

  -- a lender that is left is paid from the credit that it had given
  paid : (old me).credit ≡ 0 → (old me).lender ≡ None
  paid = (inv.sound.room me low).none-nobody

  -- "GRANT"
  grant-lower : (m l : ℕ) → Oldest messages k a me (msg.Grant m l) → Lower n rooms kept before (receive w a (msg.Grant m l))
  unfolding receive granted
  grant-lower m l at =
      subst⁻¹ (Lower n rooms kept before) (left-work me lending room queue a)
      (record {
        height = height;
        leads = rw at-me at (leads-grant n old (new lending) messages me (others lending) height leads k a m l (lender_in a) at.low at.there now-lent);
        less = rw at-me at (falls-grant n old (new lending) messages me low (others lending) queue 0 height k a m l (lender_in a) at now-lent paid);
      })
    where
      lending : Room
      lending = with_debt (with_modes room m 0) (lender_in a) m l

      now-lent : new lending me ≡ with_debt (with_modes (old me) m 0) (lender_in a) m l
      now-lent = here lending ∙ sym (ap (λ (r : Room). with_debt (with_modes r m 0) (lender_in a) m l) at-me)

  -- "TOKEN .. then serve": the heights are counted from its receiver
  token-lower : (m rest l : ℕ) → Oldest messages k a me (msg.Token m rest l) → Lower n rooms kept before (receive w a (msg.Token m rest l))
  unfolding receive tokened tokens
  token-lower m rest l at =
      subst⁻¹ (λ (v : Work). Lower n rooms kept before (serve v)) (left-work me rooted room queue a)
      (lower n rooms kept (rerooted me height) arrived before (serve (sending me rooted queue (leaving_sent me room a))) less
      (weighs-serve n rooms kept (rerooted me height) arrived (sending me rooted queue (leaving_sent me room a)) low
      (record {
        leads =
            rw at-me at (leads-token n old (new rooted) messages me (others rooted) height leads k a m rest l at.low at.there inv.clauses.sender now-rooted);
        within = omega arith;
      })))
    where
      rooted : Room
      rooted = tokened_by room me a m rest l

      now-rooted : new rooted me ≡ tokened_by (old me) me a m rest l
      now-rooted = here rooted ∙ sym (ap (λ (r : Room). tokened_by r me a m rest l) at-me)

      arrived : ℕ
      arrived = potential n (new rooted) queue (kept ++ leaving_sent me room a) 0 (rerooted me height)

      less : arrived < before
      less =
          rw at-me at (falls-token n old (new rooted) messages me low (others rooted) queue 0 height k a m rest l at (omega (arith, inv.sound.token)) now-rooted paid)

  -- "REDUCE .. Then settle or serve."
  reduce-lower : (l m : ℕ) → Oldest messages k a me (msg.Reduce l m) → a < n → a ≢ me → At n rooms kept w empty 0
      → Whole n rooms kept (with_room w (reduced room a l m)) → Lower n rooms kept before (receive w a (msg.Reduce l m))
  unfolding receive settle_or_serve
  reduce-lower l m at from_low other taken whole =
      by-test (Lower n rooms kept before) lowered.token (serve (with_room w lowered)) (settle (with_room w lowered))
      (λ with. lower n rooms kept height arrived before (serve (with_room w lowered)) less (weighs-serve n rooms kept height arrived (with_room w lowered) low rests))
      (λ without. lower n rooms kept height arrived before (settle (with_room w lowered)) less
      (weighs-settle n rooms kept height arrived (with_room w lowered)
      (reduced-owing n rooms messages me room queue inv k a l m at from_low other taken whole without) rests))
    where
      lowered : Room
      lowered = reduced room a l m

      now-lowered : new lowered me ≡ reduced (old me) a l m
      now-lowered = here lowered ∙ sym (ap (λ (r : Room). reduced r a l m) at-me)

      arrived : ℕ
      arrived = potential n (new lowered) queue kept 0 height

      less : arrived < before
      less = falls-reduce n old (new lowered) messages me low (others lowered) queue 0 height k a l m at now-lowered

      rests : Rests n rooms kept height arrived (with_room w lowered)
      rests =
          record {
            leads = rw (append-nil kept) (leads-reduce n old (new lowered) messages me (others lowered) height leads k a l m at.low at.there now-lowered);
            within = rw (append-nil kept) (omega arith);
          }

  pub receive-lower : (m : Message) → Oldest messages k a me m → Right n old (wire a me m)
      → At n rooms kept w (λ c. one (is_named_in c me m)) (one (is_token m)) → Lower n rooms kept before (receive w a m)
  unfolding receive is_named_in is_token
  receive-lower msg.Nothing at r t = absurd (proper r.facts)
  receive-lower (msg.Request o m idle) at r t = request-lower o m idle at (proper r.facts) (r.unowned o m idle refl) t
  receive-lower (msg.Grant m l) at r t = grant-lower m l at
  receive-lower (msg.Token m rest l) at r t = token-lower m rest l at
  receive-lower (msg.Reduce l m) at r t =
      reduce-lower l m at r.facts.from_low r.facts.apart t
      (reduced-kept n rooms kept w a r.facts.from_low r.facts.apart l m (proper r.facts) t)
