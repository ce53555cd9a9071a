-- UPGRADE keeps the invariant.
use Rattle.std.specs.Prelude.{◌≡◌, false, List, ◌++◌, ℕ}
use Rattle.std.proofs.Math.Bool.{true}
use Rattle.std.proofs.Common.{arith}
use Rattle.base.specs.Choice.{by-test}
use Rattle.modes.specs.Codes.{U, W}
use Rattle.room.specs.declared.Room.{Room}
use Rattle.room.specs.Record.{with_modes}
use Rattle.room.specs.Owned.{has_no_entries}
use Rattle.table.specs.declared.Wire.{Wire}
use Rattle.rules.specs.Work.{Work}
use Rattle.rules.specs.Rules.{hold, want, upgrade}
use Rattle.kept.specs.Acts.{Whole, now}
use Rattle.kept.specs.Asks.{upgrade-kept}
use Rattle.owning.proofs.PairsKept.{pairs-upgrade}
use Rattle.owning.proofs.Light.{light-other}
use Rattle.owning.proofs.Served.{served-upgrade, served-waits}
use Rattle.safe.specs.Done.{Done}
use Rattle.safe.specs.Begins.{at_room, facts, alone-after, unnamed, here, modes-now, wants-now, holding, still, held-exact, held-done, wanting, same, wanted-exact, clauses-want}

module _ (n : ℕ) (rooms : ℕ → Room) (kept : List Wire) (w : Work) (a : Done n rooms kept w) (idle : w.room.wanted ≡ 0) where
  abbrev before : ℕ → Room
  before = now rooms w

  abbrev messages : List Wire
  messages = kept ++ w.sent

  abbrev me : ℕ
  me = w.me

  -- "With no entries it holds W"
  upgraded-now : w.room.token ≡ true → has_no_entries w.room ≡ true → Whole n rooms kept (hold w W) → Done n rooms kept (hold w W)
  upgraded-now with free whole =
      held-done n rooms kept w a W idle whole
      (pairs-upgrade n before (holding n rooms kept w a W) messages me a.whole.low (still n rooms kept w a W) a.invariant.clauses.pairs W 0 (omega arith)
      (at_room n rooms kept w a (λ (r : Room). has_no_entries r ≡ true) free) (unnamed n rooms kept w a idle) (modes-now n rooms kept w a W 0))
      (held-exact n rooms kept w a W with)
      (served-upgrade n (holding n rooms kept w a W) me (alone-after n rooms kept w a (with_modes w.room W 0) with) w.room w.queue
      (λ q i. (a.invariant.sound.queued q i).some) (here n rooms kept w a (with_modes w.room W 0)))

  -- "else it wants W and waits, ahead of the queue"
  upgrade-waits : w.room.token ≡ true → w.room.held ≡ U → has_no_entries w.room ≡ false → Whole n rooms kept (want w W) → Done n rooms kept (want w W)
  unfolding want
  upgrade-waits with holds some whole =
      record {
        whole = whole;
        invariant =
            record {
              sound = whole.moment;
              clauses = clauses-want n rooms kept w a W 0 a.invariant.clauses;
              exact = wanted-exact n rooms kept w a W;
              light =
                  light-other n before (wanting n rooms kept w a W) w.queue me a.whole.low (same n rooms kept w a W) a.invariant.light
                  (λ e. omega (arith, wants-now n rooms kept w a w.room.held W));
              served =
                  served-waits n (wanting n rooms kept w a W) me (alone-after n rooms kept w a (with_modes w.room w.room.held W) with) w.room
                  w.queue holds some (here n rooms kept w a (with_modes w.room w.room.held W));
            };
        unworn = a.unworn;
      }

  pub upgrade-safe : w.room.held ≡ U → Done n rooms kept (upgrade w)
  unfolding upgrade
  upgrade-safe holds =
      by-test (λ (v : Work). Whole n rooms kept v → Done n rooms kept v) (has_no_entries w.room) (hold w W) (want w W) (upgraded-now with) (upgrade-waits with holds)
      (upgrade-kept n rooms kept w a.whole idle holds)
    where
      with : w.room.token ≡ true
      with = (facts n rooms kept w a).U-token holds
