-- Every clause is kept where the token is passed on.
use Rattle.std.specs.Prelude.{◌≡◌, refl, ◌≢◌, true, false, List, [], ◌∷◌, ◌++◌, ℕ, ◌+◌, ◌≤◌, ◌<◌, length}
use Rattle.std.proofs.Common.{true≢false, arith}
use Rattle.base.specs.Lists.{Mem}
use Rattle.std.specs.Prelude.{None}
use Rattle.modes.specs.Modes.{agrees, can_lend}
use Rattle.room.specs.declared.Room.{Room}
use Rattle.room.specs.Limits.{room_limit}
use Rattle.room.specs.Owned.{owned}
use Rattle.room.specs.Rules.{next_link, remaining, passed_to}
use Rattle.table.specs.declared.Wire.{Wire}
use Rattle.table.specs.declared.Queued.{Queued}
use Rattle.table.specs.declared.Message.{Message}
use Rattle.table.specs.declared.Message.TheVariants as msg
use Rattle.table.specs.Formed.{is_token}
use Rattle.facts.specs.Wires.{wire}
use Rattle.facts.specs.Tokens.{holder-quiet}
use Rattle.kept.specs.Moment.{Moment}
use Rattle.ledger.proofs.Debts.{is_setting}
use Rattle.ledger.proofs.Passes.{ledger-pass}
use Rattle.ledger.proofs.Numbers.{links-pass}
use Rattle.ledger.proofs.Senders.{sender-pass}
use Rattle.owning.specs.Messages.{Unnamed, unnamed-grant}
use Rattle.owning.proofs.Covered.{Covered}
use Rattle.owning.proofs.Small.{small-pass}
use Rattle.owning.proofs.PairsKept.{pairs-pass}
use Rattle.owning.proofs.Fits.{fits-pass}
use Rattle.owning.proofs.Idle.{idle-pass}
use Rattle.tree.proofs.Kept.{pass-tree}
use Rattle.bounds.proofs.Messages.{messages-pass}
use Rattle.bounds.proofs.Counters.{counters-pass}
use Rattle.bounds.proofs.Limits.{next-link}
use Rattle.safe.specs.Invariant.{Clauses}
use Rattle.safe.specs.Moments.{ungranted, unasked}

-- a message that is neither a TOKEN nor a GRANT decides no debt
no-setting : (m : Message) → is_token m ≡ false → ((j l : ℕ) → m ≡ msg.Grant j l → ⊥) → is_setting m ≡ false
unfolding is_token is_setting
no-setting msg.Nothing t g = refl
no-setting (msg.Request o m idle) t g = refl
no-setting (msg.Grant m l) t g = absurd (g m l refl)
no-setting (msg.Token m rest l) t g = absurd (true≢false t)
no-setting (msg.Reduce l m) t g = refl

module _ (n : ℕ) (old new : ℕ → Room) (queue : List Queued) (messages : List Wire) (me : ℕ) (low : me < n) (limit : n ≤ room_limit)
    (long : length (old me).entries ≡ room_limit) (others : (c : ℕ) → c ≢ me → new c ≡ old c) (names : ℕ → ℕ) (s : Moment n old queue messages names 0) (hand : ℕ)
    (k : Clauses n old queue messages (hand + 1)) (y m : ℕ) (near : y < n) (other : y ≢ me) (unnamed : Unnamed y messages)
    (here : new me ≡ passed_to (old me) y) (with : (old me).token ≡ true) (some : 1 ≤ m) (agree : agrees (owned (old me)) m ≡ true)
    (cannot : can_lend (owned (old me)) m ≡ false) (covered : Covered (old me) (old y)) where
  abbrev link : ℕ
  link = next_link (old me).counter

  abbrev token : Wire
  token = wire me y (msg.Token m (remaining (old me) y) link)

  free : (old me).lender ≡ None
  free = (s.room me low).token-free with

  none : (w : Wire) → Mem w messages → is_token w.message ≡ false
  none = holder-quiet n old messages (omega (arith, s.token)) me low with

  no-grant : (w : Wire) → Mem w messages → w.to ≡ me → (j l : ℕ) → w.message ≡ msg.Grant j l → ⊥
  no-grant = ungranted n old queue messages names 0 s me with

  counted : link ≡ (old me).counter + 1
  counted = next-link n limit old queue messages hand me low k.counters

  pub clauses-pass : Clauses n new queue (messages ++ (token ∷ [])) hand
  clauses-pass =
      record {
        ledger =
            ledger-pass n old new messages me others k.ledger y m here near other limit (omega (arith, long)) free none
            (λ w i e. no-setting w.message (none w i) (no-grant w i e));
        links = links-pass n old new messages me others k.links y m here (omega (arith, counted)) limit free no-grant;
        sender = sender-pass old new messages me y m here none (unasked n old queue messages names 0 s me with);
        small = small-pass n old new messages me low others k.small limit long y near m link some agree cannot here;
        pairs = pairs-pass n old new messages me low others k.pairs limit long y near m link other some agree cannot covered here;
        fits = fits-pass n old new messages me low others k.fits (k.pairs.room me low) limit long y near m (remaining (old me) y) link here;
        idle = idle-pass n old new messages me low others k.idle (k.pairs.room me low) limit long y near m (remaining (old me) y) link here;
        tree = pass-tree n old new messages me low others k.tree y m here free (λ w i j l e q. unnamed-grant y messages unnamed w i q j l e);
        few = messages-pass n old new messages me low others queue hand y m k.few;
        counters = counters-pass n old new messages me low others queue hand y m here k.counters;
      }
