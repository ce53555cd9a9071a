-- The room that acts holds or wants another mode, and did not wait before: what that leaves of the invariant.
use Rattle.std.specs.Prelude.{◌≡◌, ◌≢◌, true, false, List, ◌++◌, ℕ, ◌≤◌, ◌<◌}
use Rattle.std.proofs.Common.{sym, ◌∙◌, ap, arith}
use Rattle.room.specs.declared.Room.{Room}
use Rattle.room.specs.Limits.{room_limit}
use Rattle.room.specs.Record.{with_modes}
use Rattle.table.specs.declared.Wire.{Wire}
use Rattle.table.specs.Formed.{names}
use Rattle.rules.specs.Work.{Work}
use Rattle.rules.specs.Rules.{hold}
use Rattle.facts.specs.Rooms.{RoomFacts}
use Rattle.facts.specs.Tokens.{holder-alone}
use Rattle.kept.specs.Changed.{changed, changed-same, changed-elsewhere}
use Rattle.kept.specs.Moment.{empty}
use Rattle.kept.specs.Acts.{Whole, now}
use Rattle.facts.specs.Due.{due-none}
use Rattle.owning.specs.Clauses.{Exact, Agreeing, Pairs, Light, Served}
use Rattle.owning.specs.Messages.{Unnamed, unnamed-of}
use Rattle.owning.proofs.Weaker.{Weaker, want-weaker}
use Rattle.owning.proofs.PairsKept.{pairs-want}
use Rattle.owning.proofs.Exact.{exact-token, exact-want}
use Rattle.owning.proofs.Fits.{fits-weaker, fits-unnamed}
use Rattle.owning.proofs.Idle.{idle-weaker, idle-unnamed}
use Rattle.owning.proofs.Light.{light-other}
use Rattle.owning.proofs.Served.{served-other}
use Rattle.safe.specs.Invariant.{Clauses, Invariant}
use Rattle.safe.specs.Moments.{unwaiting}
use Rattle.safe.specs.Settling.{clauses-modes}
use Rattle.safe.specs.Done.{Done}

module _ (n : ℕ) (rooms : ℕ → Room) (kept : List Wire) (w : Work) (a : Done n rooms kept w) where
  abbrev pub old : ℕ → Room
  old = now rooms w

  abbrev pub all : List Wire
  all = kept ++ w.sent

  pub low : w.me < n
  low = a.whole.low

  pub limit : n ≤ room_limit
  limit = a.whole.small

  pub inv : Invariant n old w.queue all
  inv = a.invariant

  pub at-me : old w.me ≡ w.room
  at-me = changed-same rooms w.me w.room

  -- what is so of the record is so of the room
  pub at_room : (P : Room → Type 0) → P w.room → P (old w.me)
  at_room P p = rw at-me p

  pub facts : RoomFacts n w.me w.room
  facts = rw at-me at (inv.sound.room w.me low)

  pub agreeing : Agreeing w.room
  agreeing = rw at-me at (inv.clauses.pairs.room w.me low)

  -- no other room has the token that the room has
  pub alone : w.room.token ≡ true → (c : ℕ) → c < n → c ≢ w.me → (old c).token ≡ false
  alone with = holder-alone n old all (omega (arith, inv.sound.token)) w.me low (ap (λ (r : Room). r.token) at-me ∙ with)

  -- a room that wants nothing is named by nothing
  pub nobody-names : w.room.wanted ≡ 0 → names w.queue all w.me ≡ 0
  nobody-names idle = unwaiting n old w.queue all empty 0 inv.sound w.me low (rw at-me (due-none w.room idle))

  pub unnamed : w.room.wanted ≡ 0 → Unnamed w.me all
  unnamed idle = unnamed-of w.me all w.queue (nobody-names idle)

  -- with another record of the room that acts
  module _ (r : Room) where
    abbrev pub new : ℕ → Room
    new = changed rooms w.me r

    pub here : new w.me ≡ r
    here = changed-same rooms w.me r

    pub others : (c : ℕ) → c ≢ w.me → new c ≡ old c
    others c e = changed-elsewhere rooms w.me r w.room c e

    pub alone-after : w.room.token ≡ true → (c : ℕ) → c < n → c ≢ w.me → (new c).token ≡ false
    alone-after with c l e = ap (λ (r : Room). r.token) (others c e) ∙ alone with c l e

  -- with another held and another wanted mode
  module _ (h v : ℕ) where
    pub modes-now : new (with_modes w.room h v) w.me ≡ with_modes (old w.me) h v
    modes-now = here (with_modes w.room h v) ∙ sym (ap (λ (r : Room). with_modes r h v) at-me)

    pub token-now : (new (with_modes w.room h v) w.me).token ≡ w.room.token
    token-now = ap (λ (r : Room). r.token) (here (with_modes w.room h v))

    pub wants-now : (new (with_modes w.room h v) w.me).wanted ≡ v
    wants-now = ap (λ (r : Room). r.wanted) (here (with_modes w.room h v))

  -- it holds m from now on, and wants nothing
  module _ (m : ℕ) where
    abbrev pub holding : ℕ → Room
    holding = new (with_modes w.room m 0)

    pub still : (c : ℕ) → c ≢ w.me → holding c ≡ old c
    still = others (with_modes w.room m 0)

    pub held-exact : w.room.token ≡ true → Exact n holding
    held-exact with = exact-token n old holding w.me low still inv.exact (token-now m 0 ∙ with)

    pub held-light : Light n holding w.queue
    held-light = light-other n old holding w.queue w.me low still inv.light (λ e. omega (arith, wants-now m 0))

    pub held-served : w.room.token ≡ false → Served n holding w.queue
    held-served without = served-other n old holding w.queue w.me still (token-now m 0 ∙ without) inv.served

    -- so it is named by nothing, and three clauses are left to be shown
    pub held-done : w.room.wanted ≡ 0 → Whole n rooms kept (hold w m) → Pairs n holding all → Exact n holding → Served n holding w.queue
        → Done n rooms kept (hold w m)
    unfolding hold
    held-done idle whole pairs exact served =
        record {
          whole = whole;
          invariant =
              record {
                sound = whole.moment;
                clauses =
                    clauses-modes n old holding w.queue all w.me low limit still 0 inv.clauses m 0 (modes-now m 0) pairs
                    (fits-unnamed n old holding all w.me low still inv.clauses.fits (unnamed idle))
                    (idle-unnamed n old holding all w.me low still inv.clauses.idle (unnamed idle));
                exact = exact;
                light = held-light;
                served = served;
              };
          unworn = a.unworn;
        }

  -- it begins to want v, and holds what it held
  module _ (v : ℕ) where
    abbrev pub wanting : ℕ → Room
    wanting = new (with_modes w.room w.room.held v)

    pub same : (c : ℕ) → c ≢ w.me → wanting c ≡ old c
    same = others (with_modes w.room w.room.held v)

    pub wanting-now : wanting w.me ≡ with_modes (old w.me) (old w.me).held v
    wanting-now = here (with_modes w.room w.room.held v) ∙ sym (ap (λ (r : Room). with_modes r r.held v) at-me)

    pub wanted-exact : Exact n wanting
    wanted-exact = exact-want n old wanting w.me low same inv.exact v wanting-now

    pub clauses-want : (hand : ℕ) → Clauses n old w.queue all hand → Clauses n wanting w.queue all hand
    clauses-want hand k =
        clauses-modes n old wanting w.queue all w.me low limit same hand k w.room.held v (modes-now w.room.held v)
        (pairs-want n old wanting all w.me low same inv.clauses.pairs v wanting-now)
        (fits-weaker n old wanting all w.me low same inv.clauses.fits weaker)
        (idle-weaker n old wanting all w.me low same inv.clauses.idle weaker)
      where
        weaker : Weaker (old w.me) (wanting w.me)
        weaker = rw (at-me, here (with_modes w.room w.room.held v)) (want-weaker w.room agreeing v)
