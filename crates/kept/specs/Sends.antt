-- Each kind of message, sent by the room that acts with what it has in hand.
use Rattle.std.proofs.Math.Path.{◌≡◌, refl}
use Rattle.std.specs.Prelude.{◌≢◌, Bool, false, List, ℕ, ◌≤◌, ◌<◌}
use native.Mathlib.Omega.{arith}
use Rattle.std.specs.Prelude.{Some, None}
use Rattle.room.proofs.Lenders.{lends-other}
use Rattle.room.specs.Record.{lender_of}
use Rattle.modes.specs.Codes.{W}
use Rattle.std.specs.Prelude.{Option}
use Rattle.room.specs.declared.Room.{Room}
use Rattle.room.specs.declared.Reduce.{Reduce}
use Rattle.room.specs.Rules.{leaving}
use Rattle.table.specs.declared.Wire.{Wire}
use Rattle.table.specs.declared.Message.TheVariants as msg
use Rattle.table.specs.Formed.{is_token, is_named_in}
use Rattle.rules.specs.Work.{Work, send, send_out}
use Rattle.facts.specs.Moments.{QueuedFacts}
use Rattle.facts.specs.Messages.{GrantFacts, TokenFacts}
use Rattle.facts.specs.Cases.{leaving-send}
use Rattle.kept.specs.Moment.{empty}
use Rattle.kept.specs.Acts.{At, Whole, now, only, put-sent}

module _ (n : ℕ) (rooms : ℕ → Room) (kept : List Wire) (w : Work) (y : ℕ) (low : y < n) (other : y ≢ w.me) where
  -- a REDUCE names nobody
  pub put-reduce : (l m : ℕ) → m ≤ W → Whole n rooms kept w → Whole n rooms kept (send w y (msg.Reduce l m))
  unfolding is_named_in is_token
  put-reduce l m code a =
      put-sent n rooms kept w empty 0 a y (msg.Reduce l m) empty 0 low other code (λ o k idle e. absurd (differ o k idle e)) (λ c b. refl) refl
    where
      differ : (o k : ℕ) (idle : Bool) → msg.Reduce l m ≡ msg.Request o k idle → ⊥
      differ o k idle e = let z : ◌≡◌ {A = ℕ} 0 1 = cc in omega arith

  -- a GRANT names its receiver
  pub put-grant : (m l : ℕ) → GrantFacts (now rooms w y) m → At n rooms kept w (only y) 0 → Whole n rooms kept (send w y (msg.Grant m l))
  unfolding is_named_in is_token
  put-grant m l facts a =
      put-sent n rooms kept w (only y) 0 a y (msg.Grant m l) empty 0 low other facts (λ o k idle e. absurd (differ o k idle e)) (λ c b. omega arith) refl
    where
      differ : (o k : ℕ) (idle : Bool) → msg.Grant m l ≡ msg.Request o k idle → ⊥
      differ o k idle e = let z : ◌≡◌ {A = ℕ} 0 1 = cc in omega arith

  -- a TOKEN names its receiver
  pub put-token : (m rest l : ℕ) → TokenFacts (now rooms w y) m rest → At n rooms kept w (only y) 1
      → Whole n rooms kept (send w y (msg.Token m rest l))
  unfolding is_named_in is_token
  put-token m rest l facts a =
      put-sent n rooms kept w (only y) 1 a y (msg.Token m rest l) empty 0 low other facts (λ o k idle e. absurd (differ o k idle e)) (λ c b. omega arith) refl
    where
      differ : (o k : ℕ) (idle : Bool) → msg.Token m rest l ≡ msg.Request o k idle → ⊥
      differ o k idle e = let z : ◌≡◌ {A = ℕ} 0 1 = cc in omega arith

  -- a REQUEST names its origin, which has no token
  pub put-request : (o m : ℕ) (idle : Bool) → QueuedFacts n (now rooms w) (record { room = o; mode = m }) → (now rooms w o).token ≡ false
      → At n rooms kept w (only o) 0 → Whole n rooms kept (send w y (msg.Request o m idle))
  unfolding is_named_in is_token
  put-request o m idle facts without a =
      put-sent n rooms kept w (only o) 0 a y (msg.Request o m idle) empty 0 low other facts (λ p k i e. rw (← origin p k i e) without) (λ c b. omega arith)
      refl
    where
      origin : (p k : ℕ) (i : Bool) → msg.Request o m idle ≡ msg.Request p k i → o ≡ p
      origin p k i e = cc

-- "if b has a lender other than a, it sends that lender REDUCE to none under the old link"
pub put-leaving : (n : ℕ) (rooms : ℕ → Room) (kept : List Wire) (w : Work) (r : Room) (a : ℕ)
    → (r.lender ≢ None → lender_of r < n) → r.lender ≢ Some w.me → Whole n rooms kept w → Whole n rooms kept (send_out w (leaving r a))
unfolding send_out
put-leaving n rooms kept w r a low other k =
    leaving-send r a (λ (s : Option Reduce). Whole n rooms kept (send_out w s)) (λ e. k)
    (λ e. put-reduce n rooms kept w (lender_of r) (low e) (lends-other r w.me e other) r.link 0 (omega arith) k)
