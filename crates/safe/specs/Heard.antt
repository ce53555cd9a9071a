-- A REQUEST arrives: it joins the queue, is lent to, or is sent on. The invariant is kept.
use Rattle.std.specs.Prelude.{◌≡◌, refl, ◌≢◌, Bool, false, ◌&&◌, List, [], ◌∷◌, ◌++◌, ℕ, ◌≤◌, ◌<◌, ltb, eqb, length}
use Rattle.std.proofs.Math.Path.{sym, ap}
use Rattle.std.proofs.Common.{◌∙◌, append-nil, arith, eq-eqb}
use Rattle.std.proofs.Math.Bool.{true, not}
use Rattle.std.proofs.lemmas.Bool.{false≢true, eqb-false, not-true}
use Rattle.base.specs.Choice.{by-test, split}
use Rattle.base.specs.Tests.{and_left, and_right, clash}
use Rattle.base.specs.Sums.{one, one-le}
use Rattle.base.specs.Lists.{Mem, count, remove, mem-remove, mem-at}
use Rattle.std.specs.Prelude.{None}
use Rattle.modes.specs.Modes.{can_lend}
use Rattle.modes.proofs.Laws.{none-under}
use Rattle.room.specs.declared.Room.{Room}
use Rattle.room.specs.Limits.{room_limit}
use Rattle.room.specs.Owned.{owned}
use Rattle.room.specs.Rules.{next_link, is_worn, lent, lent_to}
use Rattle.table.specs.declared.Wire.{Wire}
use Rattle.table.specs.declared.Queued.{Queued}
use Rattle.table.specs.declared.Message.{Message}
use Rattle.table.specs.declared.Message.TheVariants as msg
use Rattle.table.specs.Tables.{no_wire}
use Rattle.table.specs.Oldest.{between}
use Rattle.table.specs.Formed.{due, is_token, is_named_in, names}
use Rattle.rules.specs.Work.{Work, send, join}
use Rattle.rules.specs.Rules.{lend, settle, serve, take_request}
use Rattle.facts.specs.Moments.{QueuedFacts, MessageFacts}
use Rattle.facts.specs.Wires.{wire}
use Rattle.kept.specs.Changed.{changed, changed-same, changed-elsewhere}
use Rattle.kept.specs.Moment.{empty}
use Rattle.kept.specs.Acts.{At, Whole, now, only, put-joined}
use Rattle.kept.specs.Loans.{lend-kept}
use Rattle.kept.specs.Sends.{put-request}
use Rattle.ledger.proofs.Frames.{sender-is}
use Rattle.ledger.proofs.Takes.{Oldest}
use Rattle.ledger.proofs.Senders.{not-sender}
use Rattle.owning.specs.Messages.{Unnamed, unnamed-of, unnamed-token, unnamed-grant}
use Rattle.owning.proofs.Weaker.{lent-weaker}
use Rattle.owning.proofs.Exact.{but-lend}
use Rattle.owning.proofs.Light.{light-join, light-weaker}
use Rattle.owning.proofs.Served.{served-other}
use Rattle.tree.specs.Tree.{Tree, NoTokenTo}
use Rattle.tree.proofs.Children.{no-borrower, no-grant}
use Rattle.tree.proofs.Kept.{lend-tree}
use Rattle.bounds.proofs.Limits.{never-worn}
use Rattle.safe.specs.Invariant.{Clauses, Invariant}
use Rattle.safe.specs.Moments.{in-hand}
use Rattle.safe.specs.Lending.{clauses-lend}
use Rattle.safe.specs.Requesting.{clauses-asked, clauses-heard, clauses-joined}
use Rattle.safe.specs.Done.{Done}
use Rattle.safe.specs.Serve.{served}
use Rattle.safe.specs.Settle.{Owing, settling}

-- a TOKEN has a mode, a remaining mode and a link number
token-parts : (v : Message) → is_token v ≡ true → (m : ℕ) × (rest : ℕ) × (l : ℕ) × (v ≡ msg.Token m rest l)
unfolding is_token
token-parts msg.Nothing t = absurd (false≢true t)
token-parts (msg.Request o m idle) t = absurd (false≢true t)
token-parts (msg.Grant m l) t = absurd (false≢true t)
token-parts (msg.Token m rest l) t = (m, rest, l, refl)
token-parts (msg.Reduce l m) t = absurd (false≢true t)

-- a room that has just taken a message off its wire, and has done nothing yet
abbrev pub taking : ℕ → Room → List Queued → Work
taking me room queue = record { me = me; room = room; queue = queue; sent = []; worn = false }

module _ (n : ℕ) (rooms : ℕ → Room) (messages : List Wire) (me : ℕ) (room : Room) (queue : List Queued)
    (inv : Invariant n (now rooms (taking me room queue)) queue messages) (k a o m : ℕ) (idle : Bool)
    (at : Oldest messages k a me (msg.Request o m idle)) (named : QueuedFacts n (now rooms (taking me room queue)) (record { room = o; mode = m }))
    (tokenless : (now rooms (taking me room queue) o).token ≡ false) (taken : At n rooms (remove k messages) (taking me room queue) (only o) 0) where
  abbrev w : Work
  w = taking me room queue

  abbrev old : ℕ → Room
  old = now rooms w

  abbrev kept : List Wire
  kept = remove k messages

  low : me < n
  low = taken.low

  near : o < n
  near = named.low

  at-me : old me ≡ room
  at-me = changed-same rooms me room

  long : length (old me).entries ≡ room_limit
  long = rw at-me taken.long

  clauses : Clauses n old queue kept 1
  clauses = clauses-heard n old queue messages 0 k a me o m idle inv.clauses at

  unnamed : Unnamed o kept
  unnamed =
      unnamed-of o kept queue
      (in-hand n old queue kept (only o) 0 (rw (append-nil kept) at taken.moment) o near (omega (arith, ap one (eq-eqb o o refl))))

  request : Mem (wire a me (msg.Request o m idle)) messages
  request = rw (← at.there) (mem-at messages k no_wire at.low)

  -- "REQUEST at the room with the token: it joins the end of the queue, then serve."
  joined : room.token ≡ true → Done n rooms kept (serve (join w o m))
  unfolding join
  joined with =
      served n rooms kept (join w o m) with
      (record {
        whole = put-joined n rooms kept w (only o) 0 taken o m empty named (λ c l. omega arith);
        clauses = rw (append-nil kept) (clauses-joined n old queue kept 0 (record { room = o; mode = m }) clauses);
        exact = inv.exact;
        light = light-join n old queue (record { room = o; mode = m }) inv.light;
        unworn = refl;
      })

  -- no TOKEN of its origin is under way
  not-from : (v : Wire) → Mem v messages → (j rest l : ℕ) → v.message ≡ msg.Token j rest l → v.«from» ≢ o
  not-from = not-sender old messages inv.clauses.sender k a me o m idle at

  -- "else b sends it on, unchanged, to toward"
  sent-on : room.token ≡ false → Done n rooms kept (send w room.toward (msg.Request o m idle))
  unfolding send
  sent-on without =
      record {
        whole = whole;
        invariant =
            record {
              sound = whole.moment;
              clauses =
                  clauses-asked n old queue kept 0 me room.toward o m idle clauses (λ e. inv.clauses.idle (wire a me (msg.Request o m idle)) request o m (kind e))
                  (λ v i j rest l e f. absurd (not-from v (mem-remove k messages i) j rest l e (sym f)));
              exact = inv.exact;
              light = inv.light;
              served = inv.served;
            };
        unworn = refl;
      }
    where
      kind : idle ≡ true → msg.Request o m idle ≡ msg.Request o m true
      kind e = ap (λ (b : Bool). msg.Request o m b) e

      whole : Whole n rooms kept (send w room.toward (msg.Request o m idle))
      whole =
          let facts = rw at-me at (inv.sound.room me low) in
          put-request n rooms kept w room.toward facts.toward-low (λ e. clash (facts.toward-token e) without) o m idle named tokenless taken

  -- "if the origin owned nothing, isn't b, and owned of b can lend the mode, b lends, then settles"
  pub lent-owing : room.token ≡ false → idle ≡ true → o ≢ me → can_lend (owned room) m ≡ true → Owing n rooms kept (lend w o m)
  unfolding lend send lent lent_to names
  lent-owing without says other can =
      record {
        whole = lend-kept n rooms kept w o m near other can named.waits tokenless taken;
        clauses = rw at-me at after-clauses;
        exact =
            but-lend n old new me low others inv.exact (inv.sound.room me low) (rw at-me without) (inv.clauses.pairs.room me low)
            (λ j l. inv.clauses.small.entry me j low l) long o (omega (arith, taken.small)) m (rw at-me can) now-lent;
        light =
            light-weaker n old new queue me low others inv.light (rw at-me without)
            (ap (λ (r : Room). r.wanted) here ∙ sym (ap (λ (r : Room). r.wanted) at-me))
            (rw (at-me, here) (lent-weaker room (rw at-me at (inv.clauses.pairs.room me low)) o taken.long (omega (arith, taken.small)) m can));
        served = served-other n old new queue me others (ap (λ (r : Room). r.token) here ∙ without) inv.served;
        unworn = ap (λ (r : Room). is_worn r.counter) (sym at-me) ∙ never-worn n taken.small old queue kept 0 me low clauses.counters;
      }
    where
      after : Room
      after = lent_to room o m

      new : ℕ → Room
      new = changed rooms me after

      here : new me ≡ after
      here = changed-same rooms me after

      others : (c : ℕ) → c ≢ me → new c ≡ old c
      others c e = changed-elsewhere rooms me after room c e

      now-lent : new me ≡ lent_to (old me) o m
      now-lent = here ∙ sym (ap (λ (r : Room). lent_to r o m) at-me)

      -- the origin owns nothing, so it owes nothing and has lent nothing
      owns : owned (old o) ≡ 0
      owns = inv.clauses.idle (wire a me (msg.Request o m idle)) request o m (ap (λ (b : Bool). msg.Request o m b) says)

      free : (old o).lender ≡ None
      free = (inv.sound.room o near).none-nobody (inv.exact o near tokenless ∙ owns)

      untold : NoTokenTo o kept
      untold v i t e = let p = token-parts v.message t in unnamed-token o kept unnamed v i e p.0 p.1 p.2 p.3

      right : (v : Wire) → Mem v kept → MessageFacts n old v
      right v i = (inv.sound.right v (mem-remove k messages i)).facts

      once : (c : ℕ) → c < n → count (λ v. is_named_in c v.to v.message) kept ≤ 1
      once c l = omega (arith, taken.moment.named c l, one-le (ltb 0 (due (old c))), ap (λ (l : List Wire). count (λ v. is_named_in c v.to v.message) l) (append-nil kept))

      -- no TOKEN is on the wire from the origin
      quiet : (v : Wire) → Mem v kept → between o me v ≡ true → is_token v.message ≡ false
      quiet v i b =
          split (is_token v.message)
          (λ t. let p = token-parts v.message t in absurd (not-from v (mem-remove k messages i) p.0 p.1 p.2 p.3 (sender-is o me v b)))
          (λ t. t)

      tree : Tree n new (kept ++ (wire me o (msg.Grant m (next_link (old me).counter)) ∷ []))
      tree =
          lend-tree n old new kept me low others clauses.tree o m other now-lent free
          (no-borrower n old kept taken.small inv.sound.room right clauses.ledger clauses.small o near untold owns)
          (no-grant n old kept taken.small inv.sound.room right clauses.ledger clauses.small o near untold owns once)
          (λ v i j l e t. unnamed-grant o kept unnamed v i t j l e)

      after-clauses : Clauses n new queue (kept ++ (wire me o (msg.Grant m (next_link (old me).counter)) ∷ [])) 0
      after-clauses =
          clauses-lend n old new queue kept me low taken.small long others 0 clauses o m near other now-lent (rw at-me can) (rw owns (none-under m)) quiet tree

  lends : room.token ≡ false → idle ≡ true → o ≢ me → can_lend (owned room) m ≡ true → Done n rooms kept (settle (lend w o m))
  unfolding lend send lent lent_to
  lends without says other can = settling n rooms kept (lend w o m) (lent-owing without says other can) without

  pub request-safe : Done n rooms kept (take_request w o m idle)
  unfolding take_request
  request-safe =
      by-test (Done n rooms kept) room.token _ _ joined λ without.
      by-test (Done n rooms kept) (idle && not (eqb o me) && can_lend (owned room) m) _ _
      (λ e. lends without (and_left idle _ (and_left _ _ e)) (eqb-false _ _ (not-true _ (and_right idle _ (and_left _ _ e)))) (and_right (idle && not (eqb o me)) _ e))
      (λ e. sent-on without)
