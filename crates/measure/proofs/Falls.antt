-- The measure where one room's record changes: it falls with each hand-back and each message that arrives, and nothing else raises it.
use Rattle.std.specs.Prelude.{◌≡◌, ◌≢◌, true, false, List, [], ◌∷◌, ◌++◌, ℕ, ◌+◌, ◌*◌, ◌≤◌, ◌<◌, ltb}
use Rattle.std.proofs.Math.Path.{refl, ap}
use Rattle.std.proofs.Common.{◌∙◌, lt-ltb}
use native.Mathlib.Omega.{arith}
use Rattle.base.specs.Sums.{one, one-le, sum}
use Rattle.base.specs.Folds.{folds}
use Rattle.base.specs.Ranks.{rerooted}
use Rattle.base.specs.Lists.{remove}
use Rattle.std.specs.Prelude.{Option, None}
use Rattle.modes.specs.Codes.{IR}
use Rattle.modes.specs.Modes.{is_stronger}
use Rattle.modes.proofs.Laws.{stronger-true}
use Rattle.room.specs.declared.Room.{Room}
use Rattle.room.specs.Record.{with_modes, with_debt, lender_of}
use Rattle.room.specs.Owned.{owned}
use Rattle.room.specs.Rules.{next_link, lent_to, left, remaining, passed_to, credited, tokened_by, reduced}
use Rattle.table.specs.declared.Wire.{Wire}
use Rattle.table.specs.declared.Queued.{Queued}
use Rattle.table.specs.declared.Message.{Message}
use Rattle.table.specs.declared.Message.TheVariants as msg
use Rattle.table.specs.Formed.{is_token, tokens}
use Rattle.facts.specs.Wires.{wire, leaving_sent}
use Rattle.ledger.proofs.Takes.{Oldest}
use Rattle.facts.specs.Names.{is_request}
use Rattle.bounds.specs.Bounds.{level}
use Rattle.bounds.proofs.Weights.{level-le, level-none, level-falls, requests-sent, requests-taken, requests-leaving}
use Rattle.facts.specs.Cases.{passed-either, credited-either, reduced-either}
use Rattle.measure.specs.Measure.{pending, tokens_in, charge, follow, hold_weight, nothing, own, load, potential}
use Rattle.measure.proofs.Piles.{pile-flag, pile-append, pile-sent, pile-taken, pile-token-taken}
use Rattle.measure.proofs.Loads.{potential-at, potential-dropped, tokens-sent, tokens-taken, tokens-leaving, leaving-paid, owns}

module _ (n : ℕ) (old new : ℕ → Room) (messages : List Wire) (me : ℕ) (low : me < n) (others : (c : ℕ) → c ≢ me → new c ≡ old c)
    (queue : List Queued) (hand : ℕ) (height : ℕ → ℕ) where
  -- the names and the TOKENs before the change
  abbrev names : ℕ
  names = pending queue messages hand

  abbrev flag : ℕ
  flag = tokens_in messages

  -- no room but one changes
  rooms-differ : sum n (λ c. own (new c)) + own (old me) ≡ sum n (λ c. own (old c)) + own (new me)
  rooms-differ = owns n old new me low others

  -- MODES

  modes-differ : (h v : ℕ) → new me ≡ with_modes (old me) h v
      → potential n new queue messages hand height + one (ltb 0 (old me).held) ≡ potential n old queue messages hand height + one (ltb 0 h)
  unfolding potential load own
  modes-differ h v here = omega (arith, rooms-differ, ap own here)

  -- a room whose name is in hand holds its mode
  pub falls-self : (h v : ℕ) → new me ≡ with_modes (old me) h v
      → potential n new queue messages hand height + 3 ≤ potential n old queue messages (hand + 1) height
  falls-self h v here = omega (arith, modes-differ h v here, potential-dropped n old queue messages hand height, one-le (ltb 0 h))

  -- "Held becomes none."
  pub falls-handed : (v : ℕ) → new me ≡ with_modes (old me) 0 v → 1 ≤ (old me).held
      → potential n new queue messages hand height < potential n old queue messages hand height
  falls-handed v here some = omega (arith, modes-differ 0 v here, ap one (lt-ltb 0 (old me).held some))

  -- a room that holds a mode holds another
  pub same-upgraded : (h v : ℕ) → new me ≡ with_modes (old me) h v → 1 ≤ (old me).held
      → potential n new queue messages hand height ≤ potential n old queue messages hand height
  same-upgraded h v here some =
      omega (arith, modes-differ h v here, ap one (lt-ltb 0 (old me).held some), one-le (ltb 0 h))

  -- What is sent.

  -- a message more, whatever it costs, of a kind that is no REQUEST
  sent-at : (b : ℕ) (m : Message) (under : ℕ) → is_request m ≡ false → flag + one (is_token m) ≡ under
      → potential n new queue (messages ++ (wire me b m ∷ [])) hand height ≡ load n new (messages ++ (wire me b m ∷ [])) height names under
  sent-at b m under plain is =
      potential-at n new queue (messages ++ (wire me b m ∷ [])) hand height names under
      (omega (arith, requests-sent messages me b m, ap one plain)) (tokens-sent messages me b m ∙ is)

  -- the name in hand pays for the GRANT
  pub not-more-lend : (y m : ℕ) → new me ≡ lent_to (old me) y m
      → potential n new queue (messages ++ (wire me y (msg.Grant m (next_link (old me).counter)) ∷ [])) hand height
      ≤ potential n old queue messages (hand + 1) height
  unfolding potential load own lent_to charge is_token is_request
  not-more-lend y m here = omega (
    arith,
    sent-at y (msg.Grant m (next_link (old me).counter)) flag refl (omega arith),
    pile-sent height names flag nothing messages (wire me y (msg.Grant m (next_link (old me).counter))),
    potential-dropped n old queue messages hand height,
    rooms-differ,
    ap own here,
  )

  -- it pays for the TOKEN and for what remains, and each REQUEST costs one less for it and one more for the flag
  pub not-more-pass : (y m : ℕ) → new me ≡ passed_to (old me) y
      → potential n new queue (messages ++ (wire me y (msg.Token m (remaining (old me) y) (next_link (old me).counter)) ∷ [])) hand height
      ≤ potential n old queue messages (hand + 1) height
  unfolding potential load own left charge is_token is_request
  not-more-pass y m here = omega (
    arith,
    sent-at y (msg.Token m (remaining (old me) y) (next_link (old me).counter)) (flag + 1) refl refl,
    pile-sent height names (flag + 1) nothing messages (wire me y (msg.Token m (remaining (old me) y) (next_link (old me).counter))),
    pile-flag height names flag nothing messages,
    potential-dropped n old queue messages hand height,
    rooms-differ,
    level-le (new me).credit,
    ap (λ (r : Room). one (ltb 0 r.held)) here,
    passed-either (old me) y (λ (r : Room). one (ltb 0 r.held) ≡ one (ltb 0 (old me).held)) (λ e. refl) (λ e. refl),
  )

  -- the level that falls pays for the REDUCE
  pub not-more-settle : owned (old me) ≤ IR → is_stronger (old me).credit (owned (old me)) ≡ true → new me ≡ credited (old me) (owned (old me))
      → potential n new queue (messages ++ (wire me (lender_of (old me)) (msg.Reduce (old me).link (owned (old me))) ∷ [])) hand height
      ≤ potential n old queue messages hand height
  unfolding potential load own charge is_token is_request
  not-more-settle small weaker here = omega (
    arith,
    sent-at (lender_of (old me)) (msg.Reduce (old me).link (owned (old me))) flag refl (omega arith),
    pile-sent height names flag nothing messages (wire me (lender_of (old me)) (msg.Reduce (old me).link (owned (old me)))),
    rooms-differ,
    ap own here,
    credited-either (old me) (owned (old me)) (λ (r : Room). own r ≡ hold_weight * one (ltb 0 (old me).held) + level (owned (old me))) (λ e. refl) (λ e. refl),
    level-falls (owned (old me)) (old me).credit small (stronger-true (old me).credit (owned (old me)) weaker),
  )

  -- What arrives.

  -- "if b has a lender other than a, it sends that lender REDUCE to none": the level of its credit pays for it
  pub falls-grant : (k a m l : ℕ) (lender : Option ℕ) → Oldest messages k a me (msg.Grant m l)
      → new me ≡ with_debt (with_modes (old me) m 0) lender m l
      → ((old me).credit ≡ 0 → (old me).lender ≡ None)
      → potential n new queue (remove k messages ++ leaving_sent me (old me) a) hand height < potential n old queue messages hand height
  unfolding potential load own charge is_token is_request
  falls-grant k a m l lender oldest here free = omega (
    arith,
    potential-at n new queue (remove k messages ++ leaving_sent me (old me) a) hand height names flag
        (omega (arith, requests-leaving (remove k messages) me (old me) a, requests-taken messages k a me (msg.Grant m l) oldest.low oldest.there))
        (omega (arith, tokens-leaving (remove k messages) me (old me) a, tokens-taken messages k a me (msg.Grant m l) oldest.low oldest.there)),
    pile-append height names flag nothing (remove k messages) (leaving_sent me (old me) a),
    leaving-paid height names flag (folds follow nothing (remove k messages)) me (old me) a free,
    pile-taken height names flag messages nothing k a me (msg.Grant m l) oldest.low oldest.there refl refl oldest.first,
    rooms-differ,
    ap own here,
    one-le (ltb 0 m),
    level-le m,
  )

  -- the heights go up by one, and the flag goes down
  pub falls-token : (k a m rest l : ℕ) → Oldest messages k a me (msg.Token m rest l) → tokens n old messages ≡ 1
      → new me ≡ tokened_by (old me) me a m rest l → ((old me).credit ≡ 0 → (old me).lender ≡ None)
      → potential n new queue (remove k messages ++ leaving_sent me (old me) a) hand (rerooted me height)
      < potential n old queue messages hand height
  unfolding load own tokened_by is_token is_request tokens
  falls-token k a m rest l oldest single here free = omega (
    arith,
    potential-at n new queue (remove k messages ++ leaving_sent me (old me) a) hand (rerooted me height) names 0
        (omega (arith, requests-leaving (remove k messages) me (old me) a, requests-taken messages k a me (msg.Token m rest l) oldest.low oldest.there))
        (omega (arith, tokens-leaving (remove k messages) me (old me) a, only)),
    potential-at n old queue messages hand height names 1 refl (omega (arith, only)),
    pile-append (rerooted me height) names 0 nothing (remove k messages) (leaving_sent me (old me) a),
    leaving-paid (rerooted me height) names 0 (folds follow nothing (remove k messages)) me (old me) a free,
    pile-token-taken height names me messages nothing k a m rest l oldest.low oldest.there,
    rooms-differ,
    ap own here,
    one-le (ltb 0 m),
    level-none,
  )
    where
      only : tokens_in (remove k messages) + 1 ≡ tokens_in messages
      only = tokens-taken messages k a me (msg.Token m rest l) oldest.low oldest.there

  pub falls-reduce : (k a l m : ℕ) → Oldest messages k a me (msg.Reduce l m) → new me ≡ reduced (old me) a l m
      → potential n new queue (remove k messages) hand height < potential n old queue messages hand height
  unfolding potential load own charge is_token is_request
  falls-reduce k a l m oldest here = omega (
    arith,
    potential-at n new queue (remove k messages) hand height names flag
        (omega (arith, requests-taken messages k a me (msg.Reduce l m) oldest.low oldest.there))
        (omega (arith, tokens-taken messages k a me (msg.Reduce l m) oldest.low oldest.there)),
    pile-taken height names flag messages nothing k a me (msg.Reduce l m) oldest.low oldest.there refl refl oldest.first,
    rooms-differ,
    ap own here,
    reduced-either (old me) a l m (λ (r : Room). own r ≡ own (old me)) (λ e. refl) (λ e. refl),
  )
