-- DELIVER keeps the invariant, whatever the message is.
use Rattle.std.specs.Prelude.{◌≡◌, ◌≢◌, true, false, List, [], ◌++◌, ℕ, ◌≤◌, ◌<◌}
use Rattle.std.proofs.Math.Path.{refl, ap, subst⁻¹}
use Rattle.std.proofs.Common.{sym, ◌∙◌, append-nil, arith, eq-eqb}
use Rattle.base.specs.Choice.{by-test}
use Rattle.base.specs.Sums.{one}
use Rattle.base.specs.Lists.{Mem, remove, mem-at}
use Rattle.std.specs.Prelude.{Option, Some}
use Rattle.modes.specs.Codes.{IR}
use Rattle.modes.specs.Under.{under}
use Rattle.room.specs.declared.Room.{Room}
use Rattle.room.specs.Record.{with_modes, with_debt, set_entry, entry_of, lender_in}
use Rattle.room.specs.Owned.{owned}
use Rattle.room.specs.Rules.{leaving, granted, tokened, tokened_by, reduced}
use Rattle.room.proofs.Lenders.{lender-within}
use Rattle.table.specs.declared.Wire.{Wire}
use Rattle.table.specs.declared.Queued.{Queued}
use Rattle.table.specs.declared.Message.{Message}
use Rattle.table.specs.declared.Message.TheVariants as msg
use Rattle.table.specs.Tables.{no_wire}
use Rattle.table.specs.Formed.{is_token, is_named_in}
use Rattle.rules.specs.Work.{Work, with_room, send_out, change}
use Rattle.rules.specs.Rules.{settle, serve, settle_or_serve, receive}
use Rattle.facts.specs.Messages.{GrantFacts, proper}
use Rattle.facts.specs.Tokens.{gone-quiet}
use Rattle.facts.specs.Wires.{wire, leaving_sent, sent-out}
use Rattle.facts.specs.Cases.{reduced-either}
use Rattle.kept.specs.Changed.{changed, changed-same, changed-elsewhere}
use Rattle.kept.specs.Moment.{Right, empty}
use Rattle.kept.specs.Acts.{At, Whole, now, only}
use Rattle.kept.specs.Delivers.{receive-kept, arrived-kept, reduced-kept}
use Rattle.ledger.proofs.Takes.{Oldest}
use Rattle.owning.specs.Messages.{Unnamed, unnamed-of}
use Rattle.owning.proofs.Weaker.{reduced-weaker}
use Rattle.owning.proofs.Exact.{exact-token, exact-grant, exact-arrived, but-reduce}
use Rattle.owning.proofs.Light.{light-other, light-weaker, light-reduce}
use Rattle.owning.proofs.Served.{served-other}
use Rattle.safe.specs.Invariant.{Clauses, Invariant}
use Rattle.safe.specs.Moments.{in-hand}
use Rattle.safe.specs.Receiving.{clauses-grant, clauses-token, clauses-reduce}
use Rattle.safe.specs.Done.{Done}
use Rattle.safe.specs.Serve.{served}
use Rattle.safe.specs.Settle.{Owing, settling}
use Rattle.safe.specs.Heard.{taking, request-safe}

-- what a room that leaves its lender has sent
abbrev pub sending : ℕ → Room → List Queued → List Wire → Work
sending me room queue sent = record { me = me; room = room; queue = queue; sent = sent; worn = false }

pub left-work : (me : ℕ) (room r : Room) (queue : List Queued) (a : ℕ)
    → send_out (taking me room queue) (leaving r a) ≡ sending me room queue (leaving_sent me r a)
unfolding leaving_sent
left-work me room r queue a = sent-out (taking me room queue) (leaving r a)

module _ (n : ℕ) (rooms : ℕ → Room) (messages : List Wire) (me : ℕ) (room : Room) (queue : List Queued)
    (inv : Invariant n (now rooms (taking me room queue)) queue messages) (k a : ℕ) where
  abbrev w : Work
  w = taking me room queue

  abbrev old : ℕ → Room
  old = now rooms w

  abbrev kept : List Wire
  kept = remove k messages

  at-me : old me ≡ room
  at-me = changed-same rooms me room

  senders : (v : Wire) → Mem v messages → v.«from» < n
  senders v i = (inv.sound.right v i).facts.from_low

  -- with another record of the room
  module _ (r : Room) where
    abbrev new : ℕ → Room
    new = changed rooms me r

    here : new me ≡ r
    here = changed-same rooms me r

    others : (c : ℕ) → c ≢ me → new c ≡ old c
    others c e = changed-elsewhere rooms me r room c e

  -- the name of the room is in hand, so nothing else names it
  unnamed : (loose : ℕ) → me < n → At n rooms kept w (only me) loose → Unnamed me kept
  unnamed loose low taken =
      unnamed-of me kept queue
      (in-hand n old queue kept (only me) loose (rw (append-nil kept) at taken.moment) me low (omega (arith, ap one (eq-eqb me me refl))))

  -- "GRANT: .. Then lender a, the new link number, credit and held the mode, wanted none."
  grant-safe : (m l : ℕ) → Oldest messages k a me (msg.Grant m l) → a < n → a ≢ me → GrantFacts (old me) m
      → At n rooms kept w (only me) 0 → Whole n rooms kept (receive w a (msg.Grant m l)) → Done n rooms kept (receive w a (msg.Grant m l))
  unfolding receive granted
  grant-safe m l at from_low other facts taken whole =
      subst⁻¹ (Done n rooms kept) (left-work me lending room queue a)
      (record {
        whole = there;
        invariant =
            record {
              sound = there.moment;
              clauses =
                  rw at-me at (clauses-grant n old (new lending) queue messages me low taken.small (rw at-me taken.long) (others lending) (inv.sound.room me low) senders 0 inv.clauses k a
                  from_low other m l at now-lent (unnamed 0 low taken) facts.weak);
              exact =
                  exact-grant n old (new lending) me low (others lending) inv.exact (Some a) m l (inv.clauses.pairs.room me low)
                  (inv.clauses.fits (wire a me (msg.Grant m l)) grant m l refl) facts.weak now-lent;
              light = light-other n old (new lending) queue me low (others lending) inv.light (λ e. omega (arith, ap (λ (r : Room). r.wanted) (here lending)));
              served = served-other n old (new lending) queue me (others lending) (rw (here lending, ← at-me) facts.without) inv.served;
            };
        unworn = refl;
      })
    where
      lending : Room
      lending = with_debt (with_modes room m 0) (lender_in a) m l

      low : me < n
      low = taken.low

      now-lent : new lending me ≡ with_debt (with_modes (old me) m 0) (Some a) m l
      now-lent =
          here lending ∙ ap (λ (o : Option ℕ). with_debt (with_modes room m 0) o m l) (lender-within a n from_low taken.small)
          ∙ sym (ap (λ (r : Room). with_debt (with_modes r m 0) (Some a) m l) at-me)

      grant : Mem (wire a me (msg.Grant m l)) messages
      grant = rw (← at.there) (mem-at messages k no_wire at.low)

      there : Whole n rooms kept (sending me lending queue (leaving_sent me room a))
      there = rw (left-work me lending room queue a) at whole

  -- "TOKEN: .. then serve"
  token-safe : (m rest l : ℕ) → Oldest messages k a me (msg.Token m rest l) → a < n → a ≢ me
      → At n rooms kept w (only me) 1 → Whole n rooms kept (change w (tokened room me a m rest l)) → Done n rooms kept (receive w a (msg.Token m rest l))
  unfolding receive tokened tokened_by
  token-safe m rest l at from_low other taken whole =
      subst⁻¹ (λ (v : Work). Done n rooms kept (serve v)) (left-work me rooted room queue a)
      (served n rooms kept (sending me rooted queue (leaving_sent me room a)) refl
      (record {
        whole = rw (left-work me rooted room queue a) at whole;
        clauses =
            rw at-me at (clauses-token n old (new rooted) queue messages me low taken.small (rw at-me taken.long) (others rooted) (inv.sound.room me low) senders 0 inv.clauses k a
            from_low other m rest l at now-rooted (unnamed 1 low taken)
            (gone-quiet n old kept (omega (arith, rw (append-nil kept) at taken.moment.token))));
        exact = exact-arrived n old (new rooted) me low (others rooted) inv.exact a m rest l now-rooted;
        light = light-other n old (new rooted) queue me low (others rooted) inv.light (λ e. omega (arith, ap (λ (r : Room). r.wanted) (here rooted)));
        unworn = refl;
      }))
    where
      rooted : Room
      rooted = tokened_by room me a m rest l

      low : me < n
      low = taken.low

      now-rooted : new rooted me ≡ tokened_by (old me) me a m rest l
      now-rooted = here rooted ∙ sym (ap (λ (r : Room). tokened_by r me a m rest l) at-me)

  -- "REDUCE"
  module _ (l m : ℕ) (at : Oldest messages k a me (msg.Reduce l m)) (from_low : a < n) (other : a ≢ me) (taken : At n rooms kept w empty 0)
      (whole : Whole n rooms kept (with_room w (reduced room a l m))) where
    abbrev lowered : Room
    lowered = reduced room a l m

    low : me < n
    low = taken.low

    now-lowered : new lowered me ≡ reduced (old me) a l m
    now-lowered = here lowered ∙ sym (ap (λ (r : Room). reduced r a l m) at-me)

    weak : m ≤ IR
    weak = inv.clauses.small.new (wire a me (msg.Reduce l m)) (rw (← at.there) (mem-at messages k no_wire at.low)) l m refl

    -- what a REDUCE leaves alone
    same : {A : Type 0} (f : Room → A) → f (set_entry room a (entry_of m l)) ≡ f room → f room ≡ f room → f (new lowered me) ≡ f (old me)
    same f p q = ap f (here lowered) ∙ reduced-either room a l m (λ (r : Room). f r ≡ f room) (λ e. p) (λ e. q) ∙ sym (ap f at-me)

    before : lowered.token ≡ false → (old me).token ≡ false
    before without = sym (same (λ r. r.token) refl refl) ∙ ap (λ (r : Room). r.token) (here lowered) ∙ without

    weaker : under (owned (new lowered me)) (owned (old me)) ≡ true
    weaker =
        rw (at-me, here lowered) (reduced-weaker room (rw at-me at (inv.clauses.pairs.room me low)) a taken.long (omega (arith, taken.small)) l m weak)

    clauses : Clauses n (new lowered) queue (kept ++ []) 0
    clauses =
        rw (append-nil kept)
        (clauses-reduce n old (new lowered) queue messages me low taken.small (rw at-me taken.long) (others lowered) (inv.sound.room me low) senders 0 inv.clauses k a from_low other l m at
        now-lowered)

    pub reduced-owing : lowered.token ≡ false → Owing n rooms kept (with_room w lowered)
    reduced-owing without =
        record {
          whole = whole;
          clauses = clauses;
          exact =
              but-reduce n old (new lowered) me low (others lowered) inv.exact (inv.sound.room me low) (before without) (inv.clauses.pairs.room me low)
              (λ j b. inv.clauses.small.entry me j low b) (rw at-me taken.long) a (omega (arith, taken.small)) l m weak now-lowered;
          light = light-weaker n old (new lowered) queue me low (others lowered) inv.light (before without) (same (λ r. r.wanted) refl refl) weaker;
          served = served-other n old (new lowered) queue me (others lowered) (ap (λ (r : Room). r.token) (here lowered) ∙ without) inv.served;
          unworn = refl;
        }

    -- "Then settle or serve."
    reduce-safe : Done n rooms kept (receive w a (msg.Reduce l m))
    unfolding receive settle_or_serve
    reduce-safe =
        by-test (Done n rooms kept) lowered.token (serve (with_room w lowered)) (settle (with_room w lowered))
        (λ with. served n rooms kept (with_room w lowered) with
        (record {
          whole = whole;
          clauses = clauses;
          exact = exact-token n old (new lowered) me low (others lowered) inv.exact (ap (λ (r : Room). r.token) (here lowered) ∙ with);
          light =
              light-reduce n old (new lowered) queue me low (others lowered) inv.light (inv.sound.room me low) (λ j b. inv.clauses.small.entry me j low b)
              (same (λ r. r.token) refl refl) (same (λ r. r.wanted) refl refl) weaker;
          unworn = refl;
        }))
        (λ without. settling n rooms kept (with_room w lowered) (reduced-owing without) without)

  pub receive-safe : (m : Message) → Oldest messages k a me m → Right n old (wire a me m)
      → At n rooms kept w (λ c. one (is_named_in c me m)) (one (is_token m)) → Done n rooms kept (receive w a m)
  unfolding receive is_named_in is_token
  receive-safe msg.Nothing at r t = absurd (proper r.facts)
  receive-safe (msg.Request o m idle) at r t =
      request-safe n rooms messages me room queue inv k a o m idle at (proper r.facts) (r.unowned o m idle refl) t
  receive-safe (msg.Grant m l) at r t =
      grant-safe m l at r.facts.from_low r.facts.apart (proper r.facts) t (receive-kept n rooms kept w a (msg.Grant m l) r t)
  receive-safe (msg.Token m rest l) at r t =
      token-safe m rest l at r.facts.from_low r.facts.apart t
      (arrived-kept n rooms kept w a r.facts.from_low r.facts.apart m rest l (proper r.facts) t)
  receive-safe (msg.Reduce l m) at r t =
      reduce-safe l m at r.facts.from_low r.facts.apart t
      (reduced-kept n rooms kept w a r.facts.from_low r.facts.apart l m (proper r.facts) t)
