-- ASK keeps the invariant.
use Rattle.std.specs.Prelude.{◌≡◌, refl, ◌⊎◌, false, ◌&&◌, ℕ, ◌≤◌, ◌<◌, eqb, length}
use Rattle.std.proofs.Common.{sym, ◌∙◌, ap, subst, eqb-true}
use Rattle.std.proofs.Math.Bool.{true}
use Rattle.std.proofs.lemmas.Bool.{false≢true}
use mathlib.Core.List.{List, [], ◌∷◌, ◌++◌, append_assoc}
use Rattle.base.specs.Choice.{by-test}
use Rattle.base.specs.Tests.{and_left, and_right}
use Rattle.base.specs.Lists.{Mem}
use Rattle.modes.specs.Codes.{W}
use Rattle.modes.specs.Modes.{agrees, can_lend}
use Rattle.modes.specs.Under.{small}
use Rattle.room.specs.declared.Room.{Room}
use Rattle.room.specs.Record.{with_modes}
use Rattle.room.specs.Owned.{owned}
use Rattle.table.specs.declared.Wire.{Wire}
use Rattle.table.specs.declared.Queued.{Queued}
use Rattle.table.specs.declared.Message.TheVariants as msg
use Rattle.table.specs.Oldest.{between}
use Rattle.rules.specs.Limits.{busy_limit, worn_limit}
use Rattle.rules.specs.Work.{Work, send, join}
use Rattle.rules.specs.Rules.{hold, want, is_empty, ask_with, ask_without, ask}
use Rattle.facts.specs.Moments.{Formed}
use Rattle.facts.specs.Wires.{wire}
use Rattle.kept.specs.Start.{formed-of}
use Rattle.kept.specs.Acts.{Whole, now}
use Rattle.kept.specs.Asks.{ask-kept}
use Rattle.ledger.proofs.Frames.{same-wire}
use Rattle.owning.specs.Clauses.{Blocked, Served}
use Rattle.owning.proofs.Changes.{same-owned, wanted-same}
use Rattle.owning.proofs.PairsKept.{pairs-hold, pairs-self-loan}
use Rattle.owning.proofs.Exact.{exact-self-loan, owned-weak}
use Rattle.owning.proofs.Light.{light-request, light-ask}
use Rattle.owning.proofs.Served.{served-hold, served-ask, served-head, served-other}
use Rattle.bounds.proofs.Limits.{messages-ask, counters-ask}
use Rattle.safe.specs.Invariant.{Clauses}
use Rattle.safe.specs.Requesting.{recounted, clauses-asked, clauses-joined}
use Rattle.safe.specs.Done.{Done}
use Rattle.safe.specs.Begins.{at-me, at_room, alone, alone-after, nobody-names, unnamed, here, modes-now, token-now, holding, still, held-exact, held-served, held-done, wanting, same, wanting-now, wanted-exact, clauses-want}

empty-is : (queue : List Queued) → is_empty queue ≡ true → queue ≡ []
unfolding is_empty
empty-is [] h = refl
empty-is (q ∷ rest) h = absurd (false≢true h)

module _ (n : ℕ) (rooms : ℕ → Room) (kept : List Wire) (w : Work) (a : Done n rooms kept w) (idle : w.room.wanted ≡ 0) where
  abbrev before : ℕ → Room
  before = now rooms w

  abbrev messages : List Wire
  messages = kept ++ w.sent

  abbrev me : ℕ
  me = w.me

  -- x, which is named by nothing, holds m from now on
  module _ (m : ℕ) where
    abbrev after : ℕ → Room
    after = holding n rooms kept w a m

    -- "if the queue is empty and m agrees with owned, x holds m"
    granted : w.room.token ≡ true → (is_empty w.queue && agrees m (owned w.room)) ≡ true → Whole n rooms kept (hold w m) → Done n rooms kept (hold w m)
    granted with test whole =
        held-done n rooms kept w a m idle whole
        (pairs-hold n before after messages me a.whole.low (still n rooms kept w a m) a.invariant.clauses.pairs m 0
        (at_room n rooms kept w a (λ (r : Room). agrees m (owned r) ≡ true) (and_right (is_empty w.queue) _ test)) (unnamed n rooms kept w a idle)
        (modes-now n rooms kept w a m 0))
        (held-exact n rooms kept w a m with)
        (subst (Served n after) (sym (empty-is w.queue (and_left _ _ test)))
        (served-hold n after me (alone-after n rooms kept w a (with_modes w.room m 0) with) w.room m (here n rooms kept w a (with_modes w.room m 0))))

    -- "if owned can lend m, x holds m and nothing is sent"
    lent : w.room.token ≡ false → w.room.held ≡ 0 → can_lend (owned w.room) m ≡ true → Whole n rooms kept (hold w m) → Done n rooms kept (hold w m)
    lent without free can whole =
        held-done n rooms kept w a m idle whole
        (pairs-self-loan n before after messages me a.whole.low (still n rooms kept w a m) a.invariant.clauses.pairs m 0 can-now
        (modes-now n rooms kept w a m 0))
        (exact-self-loan n before after me a.whole.low (still n rooms kept w a m) a.invariant.exact m 0
        (a.invariant.clauses.pairs.room me a.whole.low) (at_room n rooms kept w a (λ (r : Room). r.held ≡ 0) free) can-now (modes-now n rooms kept w a m 0))
        (held-served n rooms kept w a m without)
      where
        can-now : can_lend (owned (before me)) m ≡ true
        can-now = at_room n rooms kept w a (λ (r : Room). can_lend (owned r) m ≡ true) can

  -- ASK is refused where there are too many messages, or a counter is worn.
  module _ (free : w.room.held ≡ 0) (m : ℕ) (some : 1 ≤ m) (code : m ≤ W) (few : length messages < busy_limit)
      (counters : (c : ℕ) → c < n → (before c).counter < worn_limit) where
    abbrev asking : ℕ → Room
    asking = wanting n rooms kept w a m

    -- so there is room for one name more
    more : Clauses n before w.queue messages 1
    more =
        recounted n before messages w.queue w.queue 0 1 a.invariant.clauses
        (messages-ask n before w.queue messages formed me a.whole.low (nobody-names n rooms kept w a idle) few)
        (counters-ask n before w.queue messages formed me a.whole.low (nobody-names n rooms kept w a idle) counters)
      where
        formed : Formed n before w.queue messages
        formed = formed-of n before w.queue messages a.invariant.sound

    -- "else x wants m and joins the end of the queue"
    queued : w.room.token ≡ true → (is_empty w.queue && agrees m (owned w.room)) ≡ false → Whole n rooms kept (join (want w m) me m)
        → Done n rooms kept (join (want w m) me m)
    unfolding join want
    queued with test whole =
        record {
          whole = whole;
          invariant =
              record {
                sound = whole.moment;
                clauses = clauses-joined n asking w.queue messages 0 (record { room = me; mode = m }) (clauses-want n rooms kept w a m 1 more);
                exact = wanted-exact n rooms kept w a m;
                light =
                    light-ask n before asking w.queue me a.whole.low (same n rooms kept w a m) a.invariant.light (alone n rooms kept w a with) m with-now head
                    (at_room n rooms kept w a (λ (r : Room). (is_empty w.queue && agrees m (owned r)) ≡ false) test) (wanting-now n rooms kept w a m);
                served =
                    served-ask n asking me (alone-after n rooms kept w a (with_modes w.room w.room.held m) with) (before me) w.queue m
                    (at_room n rooms kept w a (λ (r : Room). r.held ≡ 0) free) head (at_room n rooms kept w a (λ (r : Room). (is_empty w.queue && agrees m (owned r)) ≡ false) test) (wanting-now n rooms kept w a m);
              };
          unworn = a.unworn;
        }
      where
        with-now : (before me).token ≡ true
        with-now = at_room n rooms kept w a (λ (r : Room). r.token ≡ true) with

        head : (w.queue ≡ []) ⊎ Blocked (before me) w.queue
        head = served-head n before w.queue a.invariant.served me a.whole.low with-now (at_room n rooms kept w a (λ (r : Room). r.wanted ≡ 0) idle)

    -- "else x wants m and sends REQUEST to toward"
    asked : w.room.token ≡ false → can_lend (owned w.room) m ≡ false
        → Whole n rooms kept (send (want w m) w.room.toward (msg.Request me m (eqb (owned w.room) 0)))
        → Done n rooms kept (send (want w m) w.room.toward (msg.Request me m (eqb (owned w.room) 0)))
    unfolding send want
    asked without cannot whole =
        record {
          whole = whole;
          invariant =
              record {
                sound = whole.moment;
                clauses =
                    rw (← append_assoc kept w.sent (wire me w.room.toward (msg.Request me m (eqb (owned w.room) 0)) ∷ []))
                    (clauses-asked n asking w.queue messages 0 me w.room.toward me m (eqb (owned w.room) 0) wants owns along);
                exact = wanted-exact n rooms kept w a m;
                light =
                    light-request n before asking w.queue me a.whole.low (same n rooms kept w a m) a.invariant.light m weak
                    (at_room n rooms kept w a (λ (r : Room). can_lend (owned r) m ≡ false) cannot) (wanting-now n rooms kept w a m);
                served = served-other n before asking w.queue me (same n rooms kept w a m) (token-now n rooms kept w a w.room.held m ∙ without) a.invariant.served;
              };
          unworn = a.unworn;
        }
      where
        wants : Clauses n asking w.queue messages 1
        wants = clauses-want n rooms kept w a m 1 more

        -- what it owns it owned
        owns : eqb (owned w.room) 0 ≡ true → owned (asking me) ≡ 0
        owns e =
            ap owned (here n rooms kept w a (with_modes w.room w.room.held m))
            ∙ same-owned w.room (with_modes w.room w.room.held m) (wanted-same w.room m) ∙ eqb-true _ _ e

        -- the sender of a TOKEN looks to where it went
        along : (v : Wire) → Mem v messages → (j rest l : ℕ) → v.message ≡ msg.Token j rest l → me ≡ v.«from»
            → between v.«from» v.to (wire me w.room.toward (msg.Request me m (eqb (owned w.room) 0))) ≡ true
        along v i j rest l e f =
            same-wire v.«from» v.to (wire me w.room.toward (msg.Request me m (eqb (owned w.room) 0))) f
            (ap (λ (r : Room). r.toward) (sym (at-me n rooms kept w a)) ∙ ap (λ (c : ℕ). (before c).toward) f ∙ a.invariant.clauses.sender.toward v i j rest l e)

        weak : small (owned (before me)) ≡ true
        weak =
            owned-weak n me (before me) (a.invariant.sound.room me a.whole.low) (at_room n rooms kept w a (λ (r : Room). r.token ≡ false) without)
            (λ j l. a.invariant.clauses.small.entry me j a.whole.low l)

    pub ask-safe : Done n rooms kept (ask w m)
    unfolding ask ask_with ask_without
    ask-safe =
        by-test Keeps w.room.token (ask_with w m) (ask_without w m)
        (λ with. by-test Keeps (is_empty w.queue && agrees m (owned w.room)) (hold w m) (join (want w m) me m) (granted m with) (queued with))
        (λ without. by-test Keeps (can_lend (owned w.room) m) (hold w m)
        (send (want w m) w.room.toward (msg.Request me m (eqb (owned w.room) 0))) (lent m without free) (asked without))
        (ask-kept n rooms kept w a.whole idle free m some code)
      where
        Keeps : Work → Type 0
        Keeps v = Whole n rooms kept v → Done n rooms kept v
