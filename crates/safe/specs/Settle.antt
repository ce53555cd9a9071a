-- "Settle (without the token)" ends a step: what is owed is then exactly what is owned.
use Rattle.std.specs.Prelude.{◌≡◌, refl, ◌≢◌, false, ℕ}
use Rattle.std.proofs.Math.Path.{sym}
use Rattle.std.proofs.Common.{◌∙◌, ap}
use Rattle.std.proofs.Math.Bool.{true}
use mathlib.Core.List.{List, [], ◌∷◌, ◌++◌, append_assoc}
use Rattle.room.specs.Record.{lender_of}
use Rattle.modes.specs.Modes.{is_stronger}
use Rattle.room.specs.declared.Room.{Room}
use Rattle.room.specs.declared.Changed.{Changed}
use Rattle.room.specs.Owned.{owned}
use Rattle.room.specs.Rules.{credited}
use Rattle.table.specs.declared.Wire.{Wire}
use Rattle.table.specs.declared.Message.TheVariants as msg
use Rattle.rules.specs.Work.{Work, with_room, send, send_out, change}
use Rattle.rules.specs.Rules.{settle}
use Rattle.facts.specs.Wires.{wire}
use Rattle.facts.specs.Cases.{credited-either, settled-either}
use Rattle.kept.specs.Changed.{changed, changed-same, changed-elsewhere}
use Rattle.kept.specs.Acts.{Whole, now}
use Rattle.kept.specs.Settle.{settle-kept}
use Rattle.owning.specs.Clauses.{Light, Served}
use Rattle.owning.proofs.Exact.{ExactBut, exact-still, exact-settle, settle-weak}
use Rattle.owning.proofs.Weaker.{credited-weaker}
use Rattle.owning.proofs.Light.{light-weaker}
use Rattle.owning.proofs.Served.{served-other}
use Rattle.safe.specs.Invariant.{Clauses}
use Rattle.safe.specs.Settling.{clauses-settle}
use Rattle.safe.specs.Done.{Done}

-- The room that acts has no token and may owe more than it owns; all else is as it should be.
pub record Owing (n : ℕ) (rooms : ℕ → Room) (kept : List Wire) (w : Work) : Type 0 where
  pub whole : Whole n rooms kept w
  pub clauses : Clauses n (now rooms w) w.queue (kept ++ w.sent) 0
  pub exact : ExactBut w.me n (now rooms w)
  pub light : Light n (now rooms w) w.queue
  pub served : Served n (now rooms w) w.queue
  pub unworn : w.worn ≡ false

module _ (n : ℕ) (rooms : ℕ → Room) (kept : List Wire) (w : Work) (a : Owing n rooms kept w) (without : w.room.token ≡ false) where
  abbrev me : ℕ
  me = w.me

  abbrev old : ℕ → Room
  old = now rooms w

  abbrev own : ℕ
  own = owned w.room

  abbrev paid : Room
  paid = credited w.room own

  abbrev new : ℕ → Room
  new = changed rooms me paid

  at-me : old me ≡ w.room
  at-me = changed-same rooms me w.room

  here : new me ≡ paid
  here = changed-same rooms me paid

  others : (c : ℕ) → c ≢ me → new c ≡ old c
  others c e = changed-elsewhere rooms me paid w.room c e

  now-paid : new me ≡ credited (old me) (owned (old me))
  now-paid = here ∙ sym (ap (λ (r : Room). credited r (owned r)) at-me)

  -- "if owned is weaker than credit, send the lender REDUCE to owned"
  paying : is_stronger w.room.credit own ≡ true → Whole n rooms kept (send (with_room w paid) (lender_of w.room) (msg.Reduce w.room.link own))
      → Done n rooms kept (send (with_room w paid) (lender_of w.room) (msg.Reduce w.room.link own))
  unfolding send
  paying falls whole =
      record {
        whole = whole;
        invariant =
            record {
              sound = whole.moment;
              clauses = rw (← append_assoc kept w.sent (wire me (lender_of w.room) (msg.Reduce w.room.link own) ∷ [])) (rw at-me at clauses);
              exact = exact-settle n old new me a.whole.low others a.exact now-paid;
              light =
                  light-weaker n old new w.queue me a.whole.low others a.light (ap (λ (r : Room). r.token) at-me ∙ without)
                  (ap (λ (r : Room). r.wanted) here ∙ credited-either w.room own (λ (r : Room). r.wanted ≡ w.room.wanted) (λ e. refl) (λ e. refl) ∙ sym (ap (λ (r : Room). r.wanted) at-me))
                  (rw (at-me, here) (credited-weaker w.room (rw at-me at (a.clauses.pairs.room me a.whole.low)) own));
              served =
                  served-other n old new w.queue me others
                  (ap (λ (r : Room). r.token) here ∙ credited-either w.room own (λ (r : Room). r.token ≡ false) (λ e. without) (λ e. without)) a.served;
            };
        unworn = a.unworn;
      }
    where
      falls-old : is_stronger (old me).credit (owned (old me)) ≡ true
      falls-old = rw at-me falls

      clauses : Clauses n new w.queue (kept ++ w.sent ++ (wire me (lender_of (old me)) (msg.Reduce (old me).link (owned (old me))) ∷ [])) 0
      clauses =
          clauses-settle n old new w.queue (kept ++ w.sent) me a.whole.low a.whole.small others 0 a.clauses
          (a.whole.moment.room me a.whole.low) (λ v i. (a.whole.moment.right v i).facts.from_low) now-paid falls-old
          (settle-weak me n old a.exact falls-old)

  -- else nothing is owed too much
  resting : is_stronger w.room.credit own ≡ false → Done n rooms kept (with_room w w.room)
  resting still =
      record {
        whole = a.whole;
        invariant =
            record {
              sound = a.whole.moment;
              clauses = a.clauses;
              exact = exact-still me n old a.exact (rw at-me still);
              light = a.light;
              served = a.served;
            };
        unworn = a.unworn;
      }

  pub settling : Done n rooms kept (settle w)
  unfolding settle send_out
  settling =
      settled-either w.room (λ (c : Changed). Whole n rooms kept (change w c) → Done n rooms kept (change w c))
      paying (λ e whole. resting e) (settle-kept n rooms kept w a.whole without)
