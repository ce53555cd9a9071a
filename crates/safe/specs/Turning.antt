-- One turn of serve keeps every clause: the room serves itself, lends, or passes the token.
use Rattle.std.specs.Prelude.{◌≡◌, ◌≢◌, true, false, ℕ, ◌≤◌, ◌<◌, length}
use Rattle.std.proofs.Math.Path.{refl, sym, ap}
use Rattle.std.proofs.Common.{◌∙◌, arith, eq-eqb}
use mathlib.Core.List.Memᴰ
use mathlib.Core.List.{List, [], ◌∷◌, ◌++◌, append_assoc}
use Rattle.base.specs.Sums.{one}
use Rattle.base.specs.Lists.{Mem}
use Rattle.modes.specs.Modes.{agrees, can_lend}
use Rattle.modes.specs.Under.{under}
use Rattle.modes.proofs.Laws.{agrees-sym}
use Rattle.room.specs.declared.Room.{Room}
use Rattle.room.specs.Limits.{room_limit}
use Rattle.room.specs.Record.{with_modes}
use Rattle.room.specs.Owned.{owned}
use Rattle.room.specs.Rules.{next_link, is_worn, lent, lent_to, left, passed, passed_to, remaining}
use Rattle.table.specs.declared.Wire.{Wire}
use Rattle.table.specs.declared.Queued.{Queued}
use Rattle.table.specs.declared.Message.TheVariants as msg
use Rattle.table.specs.Formed.{is_token}
use Rattle.rules.specs.Work.{Work, with_queue, send}
use Rattle.rules.specs.Rules.{hold, lend, pass}
use Rattle.facts.specs.Moments.{QueuedFacts}
use Rattle.facts.specs.Wires.{wire}
use Rattle.facts.specs.Due.{due-wants}
use Rattle.facts.specs.Cases.{passed-either}
use Rattle.facts.specs.Tokens.{holder-alone, holder-quiet}
use Rattle.kept.specs.Changed.{changed, changed-same, changed-elsewhere}
use Rattle.kept.specs.Moment.{Moment, Sound, empty}
use Rattle.kept.specs.Hand.{name_of, take-queued}
use Rattle.kept.specs.Acts.{Whole, now}
use Rattle.kept.specs.Turns.{turn-self, turn-lend, turn-pass}
use Rattle.owning.specs.Clauses.{Exact, Light}
use Rattle.owning.proofs.Weaker.{lent-weaker, passed-weaker}
use Rattle.owning.specs.Messages.{Unnamed, unnamed-of}
use Rattle.owning.proofs.Covered.{Covered, loan-fits}
use Rattle.owning.proofs.PairsKept.{pairs-hold}
use Rattle.owning.proofs.Exact.{exact-token, exact-pass}
use Rattle.owning.proofs.Fits.{fits-unnamed}
use Rattle.owning.proofs.Idle.{idle-unnamed}
use Rattle.owning.proofs.Light.{light-away, light-self, light-turn}
use Rattle.tree.proofs.Dominance.{dominated}
use Rattle.tree.proofs.Kept.{lend-root-tree}
use Rattle.bounds.proofs.Limits.{never-worn}
use Rattle.safe.specs.Invariant.{Clauses}
use Rattle.safe.specs.Moments.{in-hand, ungranted}
use Rattle.safe.specs.Lending.{clauses-lend}
use Rattle.safe.specs.Passing.{clauses-pass}
use Rattle.safe.specs.Settling.{clauses-modes}
use Rattle.safe.specs.Requesting.{clauses-headed, clauses-dropped}

-- a pass leaves what is wanted
passed-wants : (r : Room) (y : ℕ) → (passed_to r y).wanted ≡ r.wanted
unfolding left
passed-wants r y = passed-either r y (λ (s : Room). s.wanted ≡ r.wanted) (λ e. refl) (λ e. refl)

-- Inside serve: the room that acts has the token, and no clause but SERVED is open. The queue is what is still to be served.
pub record Serving (n : ℕ) (rooms : ℕ → Room) (kept : List Wire) (w : Work) (queue : List Queued) : Type 0 where
  pub whole : Whole n rooms kept (with_queue w queue)
  pub clauses : Clauses n (now rooms w) queue (kept ++ w.sent) 0
  pub exact : Exact n (now rooms w)
  pub light : Light n (now rooms w) queue
  pub unworn : w.worn ≡ false

module _ (n : ℕ) (rooms : ℕ → Room) (kept : List Wire) (w : Work) (q : Queued) (rest : List Queued)
    (a : Serving n rooms kept w (q ∷ rest)) (with : w.room.token ≡ true) (agree : agrees (owned w.room) q.mode ≡ true) where
  abbrev me : ℕ
  me = w.me

  abbrev old : ℕ → Room
  old = now rooms w

  abbrev messages : List Wire
  messages = kept ++ w.sent

  low : me < n
  low = a.whole.low

  limit : n ≤ room_limit
  limit = a.whole.small

  sound : Sound n old (q ∷ rest) messages
  sound = a.whole.moment

  own : old me ≡ w.room
  own = changed-same rooms me w.room

  long : length (old me).entries ≡ room_limit
  long = rw own a.whole.long

  with-old : (old me).token ≡ true
  with-old = ap (λ (r : Room). r.token) own ∙ with

  head : QueuedFacts n old q
  head = sound.queued q (Memᴰ.head refl)

  -- the head is off the queue, and in hand
  taken : Moment n old rest messages (name_of q) 0
  taken = take-queued n old rest messages q sound

  in-hand-clauses : Clauses n old rest messages 1
  in-hand-clauses = clauses-headed n old rest messages 0 q a.clauses

  unnamed : Unnamed q.room messages
  unnamed =
      unnamed-of q.room messages rest
      (in-hand n old rest messages (name_of q) 0 taken q.room head.low (omega (arith, ap one (eq-eqb q.room q.room refl))))

  unworn-next : is_worn w.room.counter ≡ false
  unworn-next =
      ap (λ (r : Room). is_worn r.counter) (sym own) ∙ never-worn n limit old rest messages 0 me low in-hand-clauses.counters

  -- with another record of the room that acts
  module _ (r : Room) where
    pub others : (c : ℕ) → c ≢ me → changed rooms me r c ≡ old c
    others c e = changed-elsewhere rooms me r w.room c e

    pub here : changed rooms me r me ≡ r
    here = changed-same rooms me r

  alone : (c : ℕ) → c < n → c ≢ me → (old c).token ≡ false
  alone = holder-alone n old messages (omega (arith, sound.token)) me low with-old

  -- "if it is the room itself, it holds the mode and wants none"
  pub serving-self : q.room ≡ me → Serving n rooms kept (hold w q.mode) rest
  unfolding hold
  serving-self self =
      record {
        whole = turn-self n rooms kept w q rest a.whole with self;
        clauses = clauses-dropped n new rest messages 0 clauses;
        exact = exact-token n old new me low (others held) a.exact (ap (λ (r : Room). r.token) (here held) ∙ with);
        light = light-self n old new (q ∷ rest) me low (others held) a.light alone rest (λ e. omega (arith, ap (λ (r : Room). r.wanted) (here held)));
        unworn = a.unworn;
      }
    where
      held : Room
      held = with_modes w.room q.mode 0

      new : ℕ → Room
      new = changed rooms me held

      modes : new me ≡ with_modes (old me) q.mode 0
      modes = here held ∙ sym (ap (λ (r : Room). with_modes r q.mode 0) own)

      free : Unnamed me messages
      free = rw self at unnamed

      clauses : Clauses n new rest messages 1
      clauses =
          clauses-modes n old new rest messages me low limit (others held) 1 in-hand-clauses q.mode 0 modes
          (pairs-hold n old new messages me low (others held) a.clauses.pairs q.mode 0
          (agrees-sym q.mode (owned (old me)) ∙ ap (λ (r : Room). agrees (owned r) q.mode) own ∙ agree) free modes)
          (fits-unnamed n old new messages me low (others held) a.clauses.fits free)
          (idle-unnamed n old new messages me low (others held) a.clauses.idle free)

  module _ (other : q.room ≢ me) where
    abbrev y : ℕ
    y = q.room

    abbrev m : ℕ
    m = q.mode

    -- by dominance y owns no more than some entry of the room with the token
    covered : Covered (old me) (old y)
    covered =
        dominated n old messages limit sound.room a.clauses.ledger a.exact a.clauses.small a.clauses.pairs a.clauses.fits
        a.clauses.tree (omega (arith, sound.token)) me low with-old y head.low other

    wants : (old y).wanted ≡ m
    wants = (due-wants (old y) m head.waits head.some).0

    -- "if owned can lend it, lend"
    pub serving-lend : can_lend (owned w.room) m ≡ true → Serving n rooms kept (lend w y m) rest
    unfolding lend send lent lent_to
    serving-lend can =
        record {
          whole = turn-lend n rooms kept w q rest a.whole with other can;
          clauses = rw (← append_assoc kept w.sent (wire me y (msg.Grant m (next_link w.room.counter)) ∷ [])) (rw own at clauses);
          exact = exact-token n old new me low (others after) a.exact (ap (λ (r : Room). r.token) (here after) ∙ with);
          light =
              light-turn n old new (q ∷ rest) me low (others after) a.light alone q rest refl (rw own agree)
              (ap (λ (r : Room). r.wanted) (here after) ∙ sym (ap (λ (r : Room). r.wanted) own))
              (rw (own, here after) (lent-weaker w.room (rw own at (a.clauses.pairs.room me low)) y a.whole.long (omega (arith, head.low)) m can));
          unworn = rw a.unworn unworn-next;
        }
      where
        after : Room
        after = lent_to w.room y m

        new : ℕ → Room
        new = changed rooms me after

        now-lent : new me ≡ lent_to (old me) y m
        now-lent = here after ∙ sym (ap (λ (r : Room). lent_to r y m) own)

        can-old : can_lend (owned (old me)) m ≡ true
        can-old = rw own can

        none : (v : Wire) → Mem v messages → is_token v.message ≡ false
        none = holder-quiet n old messages (omega (arith, sound.token)) me low with-old

        fit : under (owned (old y)) m ≡ true
        fit =
            loan-fits (old me) (old y) (a.clauses.pairs.room me low) m can-old (λ j l. a.clauses.small.entry me j low l) covered
            (λ e. light-away n old (q ∷ rest) a.light y head.low (alone y head.low other) (wants ∙ e))

        clauses : Clauses n new rest (messages ++ (wire me y (msg.Grant m (next_link (old me).counter)) ∷ [])) 0
        clauses =
            clauses-lend n old new rest messages me low limit long (others after) 0 in-hand-clauses y m head.low other now-lent can-old fit (λ v i b. none v i)
            (lend-root-tree n old new messages me low (others after) a.clauses.tree y m other now-lent ((sound.room me low).token-free with-old)
            (λ v i j l e t. ungranted n old (q ∷ rest) messages empty 0 sound me with-old v i t j l e))

    -- "else pass and stop"
    pub serving-pass : can_lend (owned w.room) m ≡ false → Serving n rooms kept (pass (with_queue w rest) y m) rest
    unfolding pass send passed
    serving-pass cannot =
        record {
          whole = turn-pass n rooms kept w q rest a.whole with other agree cannot;
          clauses = rw (← append_assoc kept w.sent (wire me y (msg.Token m (remaining w.room y) (next_link w.room.counter)) ∷ [])) (rw own at clauses);
          exact =
              exact-pass n old new me low (others after) a.exact y long (omega (arith, head.low))
              ((sound.room me low).nobody-none ((sound.room me low).token-free with-old)) now-passed;
          light =
              light-turn n old new (q ∷ rest) me low (others after) a.light alone q rest refl (rw own agree)
              (ap (λ (r : Room). r.wanted) (here after) ∙ passed-wants w.room y ∙ sym (ap (λ (r : Room). r.wanted) own))
              (rw (own, here after) (passed-weaker w.room (rw own at (a.clauses.pairs.room me low)) y a.whole.long (omega (arith, head.low))));
          unworn = rw a.unworn unworn-next;
        }
      where
        after : Room
        after = passed_to w.room y

        new : ℕ → Room
        new = changed rooms me after

        now-passed : new me ≡ passed_to (old me) y
        now-passed = here after ∙ sym (ap (λ (r : Room). passed_to r y) own)

        clauses : Clauses n new rest (messages ++ (wire me y (msg.Token m (remaining (old me) y) (next_link (old me).counter)) ∷ [])) 0
        clauses =
            clauses-pass n old new rest messages me low limit long (others after) (name_of q) taken 0 in-hand-clauses y m head.low other unnamed now-passed with-old
            head.some (rw own agree) (rw own cannot) covered
