-- HANDBACK keeps the invariant.
use Rattle.std.specs.Prelude.{◌≡◌, ◌≢◌, false, List, ◌++◌, ℕ}
use Rattle.base.specs.Choice.{by-test}
use Rattle.room.specs.declared.Room.{Room}
use Rattle.room.specs.Record.{with_modes}
use Rattle.table.specs.declared.Wire.{Wire}
use Rattle.rules.specs.Work.{Work}
use Rattle.rules.specs.Rules.{hold, settle, serve, settle_or_serve, hand_back}
use Rattle.kept.specs.Acts.{Whole, now}
use Rattle.kept.specs.Asks.{handed-kept}
use Rattle.owning.proofs.PairsKept.{pairs-hand-back}
use Rattle.owning.proofs.Weaker.{Weaker, hand-back-weaker}
use Rattle.owning.proofs.Exact.{but-hand-back}
use Rattle.owning.proofs.Fits.{fits-weaker}
use Rattle.owning.proofs.Idle.{idle-weaker}
use Rattle.safe.specs.Invariant.{Clauses}
use Rattle.safe.specs.Settling.{clauses-modes}
use Rattle.safe.specs.Done.{Done}
use Rattle.safe.specs.Serve.{served}
use Rattle.safe.specs.Settle.{Owing, settling}
use Rattle.safe.specs.Begins.{at_room, modes-now, holding, still, held-exact, held-light, held-served}

module _ (n : ℕ) (rooms : ℕ → Room) (kept : List Wire) (w : Work) (a : Done n rooms kept w) (idle : w.room.wanted ≡ 0) where
  abbrev before : ℕ → Room
  before = now rooms w

  abbrev messages : List Wire
  messages = kept ++ w.sent

  abbrev me : ℕ
  me = w.me

  whole : Whole n rooms kept (hold w 0)
  whole = handed-kept n rooms kept w a.whole idle

  abbrev handed : ℕ → Room
  handed = holding n rooms kept w a 0

  others : (c : ℕ) → c ≢ me → handed c ≡ before c
  others = still n rooms kept w a 0

  -- it holds nothing now
  now-handed : handed me ≡ with_modes (before me) 0 0
  now-handed = modes-now n rooms kept w a 0 0

  clauses : Clauses n handed w.queue messages 0
  clauses =
      clauses-modes n before handed w.queue messages me a.whole.low a.whole.small others 0 a.invariant.clauses 0 0 now-handed
      (pairs-hand-back n before handed messages me a.whole.low others a.invariant.clauses.pairs 0 now-handed)
      (fits-weaker n before handed messages me a.whole.low others a.invariant.clauses.fits weaker)
      (idle-weaker n before handed messages me a.whole.low others a.invariant.clauses.idle weaker)
    where
      weaker : Weaker (before me) (handed me)
      weaker = rw now-handed (hand-back-weaker (before me) (a.invariant.clauses.pairs.room me a.whole.low) 0)

  -- without the token it may owe more than it owns
  pub handed-owing : w.room.token ≡ false → Owing n rooms kept (hold w 0)
  unfolding hold
  handed-owing without =
      record {
        whole = whole;
        clauses = clauses;
        exact =
            but-hand-back n before handed me a.whole.low others a.invariant.exact (a.invariant.sound.room me a.whole.low)
            (at_room n rooms kept w a (λ (r : Room). r.token ≡ false) without) (a.invariant.clauses.pairs.room me a.whole.low)
            (λ j l. a.invariant.clauses.small.entry me j a.whole.low l) 0 now-handed;
        light = held-light n rooms kept w a 0;
        served = held-served n rooms kept w a 0 without;
        unworn = a.unworn;
      }

  -- "HANDBACK(x). Held becomes none. Then settle or serve."
  pub hand-back-safe : Done n rooms kept (hand_back w)
  unfolding hand_back settle_or_serve hold
  hand-back-safe =
      by-test (Done n rooms kept) w.room.token (serve (hold w 0)) (settle (hold w 0))
      (λ with. served n rooms kept (hold w 0) with
      (record {
        whole = whole;
        clauses = clauses;
        exact = held-exact n rooms kept w a 0 with;
        light = held-light n rooms kept w a 0;
        unworn = a.unworn;
      }))
      (λ without. settling n rooms kept (hold w 0) (handed-owing without) without)
