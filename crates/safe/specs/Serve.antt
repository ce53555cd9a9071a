-- "Serve (with the token)" keeps every clause, and leaves nobody unserved who could be served.
use Rattle.std.specs.Prelude.{◌≡◌, refl, ◌≢◌, true, false, not, ◌&&◌, ℕ, ◌<◌, eqb}
use Rattle.std.proofs.Common.{sym, ◌∙◌, arith, eqb-true}
use Rattle.std.proofs.Math.Path.{ap}
use mathlib.Core.List.{List, [], ◌∷◌, ◌++◌}
use Rattle.std.proofs.lemmas.Bool.{eqb-false, not-false}
use Rattle.base.specs.Choice.{by-test}
use Rattle.base.specs.Tests.{and_left, and_right}
use Rattle.modes.specs.Codes.{W}
use Rattle.modes.specs.Modes.{agrees, can_lend}
use Rattle.room.specs.declared.Room.{Room}
use Rattle.room.specs.Record.{with_modes}
use Rattle.room.specs.Owned.{owned, has_no_entries}
use Rattle.room.specs.Rules.{lent, lent_to}
use Rattle.table.specs.declared.Wire.{Wire}
use Rattle.table.specs.declared.Queued.{Queued}
use Rattle.rules.specs.Work.{Work, with_queue, send}
use Rattle.rules.specs.Rules.{hold, lend, pass, upgrade_waits, upgraded, serve_queue, serve}
use Rattle.facts.specs.Due.{upgrade-due}
use Rattle.facts.specs.Tokens.{holder-alone}
use Rattle.kept.specs.Changed.{changed, changed-same, changed-other, changed-elsewhere}
use Rattle.kept.specs.Moment.{empty}
use Rattle.kept.specs.Acts.{now}
use Rattle.kept.specs.Serve.{upgraded-kept, upgraded-token}
use Rattle.owning.specs.Messages.{Unnamed, unnamed-of}
use Rattle.owning.proofs.PairsKept.{pairs-upgrade}
use Rattle.owning.proofs.Exact.{exact-token}
use Rattle.owning.proofs.Fits.{fits-unnamed}
use Rattle.owning.proofs.Idle.{idle-unnamed}
use Rattle.owning.proofs.Light.{light-other}
use Rattle.owning.proofs.Served.{served-serve}
use Rattle.safe.specs.Invariant.{Clauses}
use Rattle.safe.specs.Moments.{unwaiting}
use Rattle.safe.specs.Settling.{clauses-modes}
use Rattle.safe.specs.Done.{Done, done}
use Rattle.safe.specs.Turning.{Serving, serving-self, serving-lend, serving-pass}

-- the room that serves is the one that acts
record Same (me : ℕ) (w : Work) : Type 0 where
  is : w.me ≡ me

queue-me : (queue : List Queued) (me : ℕ) (w : Work) → w.me ≡ me → Same me (serve_queue w queue)
unfolding serve_queue hold lend pass send
queue-me [] me w e = record { is = e }
queue-me (q ∷ rest) me w e =
    by-test (Same me) (upgrade_waits w.room) _ _ (λ u. record { is = e }) λ u.
    by-test (Same me) (not (agrees (owned w.room) q.mode)) _ _ (λ c. record { is = e }) λ c.
    by-test (Same me) (eqb q.room w.me) _ _ (λ s. queue-me rest me (hold w q.mode) e) λ s.
    by-test (Same me) (can_lend (owned w.room) q.mode) _ _ (λ l. queue-me rest me (lend w q.room q.mode) e) λ l.
    record { is = e }

serve-me : (w : Work) → (serve w).me ≡ w.me
unfolding serve upgraded hold
serve-me w =
    (queue-me w.queue w.me (upgraded w)
    (by-test (λ (v : Work). v.me ≡ w.me) (upgrade_waits w.room && has_no_entries w.room) (hold w W) w (λ e. refl) (λ e. refl))).is

module _ (n : ℕ) (rooms : ℕ → Room) (kept : List Wire) where
  -- a work that has its queue in it
  abbrev pub Rests : Work → Type 0
  Rests w = Serving n rooms kept w w.queue

  stops : (w : Work) (queue : List Queued) → Serving n rooms kept w queue → Rests (with_queue w queue)
  stops w queue a = record { whole = a.whole; clauses = a.clauses; exact = a.exact; light = a.light; unworn = a.unworn }

  -- "while no upgrade waits and the head of the queue agrees with owned, take it off"
  serving-queue : (queue : List Queued) (w : Work) → w.room.token ≡ true → Serving n rooms kept w queue → Rests (serve_queue w queue)
  unfolding serve_queue hold lend pass send lent lent_to
  serving-queue [] w with a = stops w [] a
  serving-queue (q ∷ rest) w with a =
      by-test Rests (upgrade_waits w.room) _ _ (λ u. stops w (q ∷ rest) a) λ u.
      by-test Rests (not (agrees (owned w.room) q.mode)) _ _ (λ c. stops w (q ∷ rest) a) λ c.
      by-test Rests (eqb q.room w.me) _ _
      (λ e. serving-queue rest (hold w q.mode) with (serving-self n rooms kept w q rest a with (not-false _ c) (eqb-true _ _ e))) λ e.
      by-test Rests (can_lend (owned w.room) q.mode) _ _
      (λ l. serving-queue rest (lend w q.room q.mode) with (serving-lend n rooms kept w q rest a with (not-false _ c) (eqb-false _ _ e) l)) λ l.
      serving-pass n rooms kept w q rest a with (not-false _ c) (eqb-false _ _ e) l

  module _ (w : Work) (with : w.room.token ≡ true) (a : Serving n rooms kept w w.queue) where
    abbrev me : ℕ
    me = w.me

    abbrev old : ℕ → Room
    old = now rooms w

    own : old me ≡ w.room
    own = changed-same rooms me w.room

    -- "a waiting upgrade with no entries becomes a held W"
    serving-upgraded : Serving n rooms kept (upgraded w) w.queue
    unfolding upgraded hold
    serving-upgraded =
        by-test (λ (v : Work). Serving n rooms kept v w.queue) (upgrade_waits w.room && has_no_entries w.room) (hold w W) w
        (λ e. record {
          whole = rw e at (upgraded-kept n rooms kept w a.whole with);
          clauses = given e;
          exact = exact-token n old new me a.whole.low others a.exact (ap (λ (r : Room). r.token) here ∙ with);
          light = light-other n old new w.queue me a.whole.low others a.light (λ z. omega (arith, ap (λ (r : Room). r.wanted) here));
          unworn = a.unworn;
        })
        (λ e. a)
      where
        held : Room
        held = with_modes w.room W 0

        new : ℕ → Room
        new = changed rooms me held

        here : new me ≡ held
        here = changed-same rooms me held

        others : (c : ℕ) → c ≢ me → new c ≡ old c
        others c e = changed-elsewhere rooms me held w.room c e

        modes : new me ≡ with_modes (old me) W 0
        modes = here ∙ sym (ap (λ (r : Room). with_modes r W 0) own)

        -- an upgrade is not named by anything
        unnamed : (upgrade_waits w.room && has_no_entries w.room) ≡ true → Unnamed me (kept ++ w.sent)
        unnamed e =
            unnamed-of me (kept ++ w.sent) w.queue
            (unwaiting n old w.queue (kept ++ w.sent) empty 0 a.whole.moment me a.whole.low (rw own (upgrade-due w.room (and_left _ _ e))))

        given : (upgrade_waits w.room && has_no_entries w.room) ≡ true → Clauses n new w.queue (kept ++ w.sent) 0
        given e =
            clauses-modes n old new w.queue (kept ++ w.sent) me a.whole.low a.whole.small others 0 a.clauses W 0 modes
            (pairs-upgrade n old new (kept ++ w.sent) me a.whole.low others a.clauses.pairs W 0 (omega arith)
            (rw own (and_right (upgrade_waits w.room) _ e)) (unnamed e) modes)
            (fits-unnamed n old new (kept ++ w.sent) me a.whole.low others a.clauses.fits (unnamed e))
            (idle-unnamed n old new (kept ++ w.sent) me a.whole.low others a.clauses.idle (unnamed e))

    pub serving : Rests (serve w)
    unfolding serve
    serving = serving-queue w.queue (upgraded w) (upgraded-token n rooms kept w a.whole with) serving-upgraded

    -- no other room has the token, before and after
    alone : (c : ℕ) → c < n → c ≢ (serve w).me → (now rooms (serve w) c).token ≡ false
    alone c l e =
        let other : c ≢ me = λ z. e (z ∙ sym (serve-me w)) in
        ap (λ (r : Room). r.token) (changed-other rooms (serve w).me (serve w).room c e ∙ sym (changed-other rooms me w.room c other))
        ∙ holder-alone n old (kept ++ w.sent) (omega (arith, a.whole.moment.token)) me a.whole.low (ap (λ (r : Room). r.token) own ∙ with) c l other

    pub served : Done n rooms kept (serve w)
    served =
        let end = serving in
        done n rooms kept (serve w) end (served-serve n (now rooms (serve w)) (serve w).me alone w (changed-same rooms (serve w).me (serve w).room))
