-- What a moment says of single rooms and messages: who names whom, and what does not go to the room with the token.
use Rattle.std.specs.Prelude.{◌≡◌, Bool, true, List, ℕ, ◌≤◌, ◌<◌, ltb}
use Rattle.std.proofs.Common.{◌∙◌, ap, arith}
use Rattle.base.specs.Tests.{clash}
use Rattle.base.specs.Sums.{one, one-le}
use Rattle.base.specs.Lists.{Mem}
use Rattle.room.specs.declared.Room.{Room}
use Rattle.table.specs.declared.Wire.{Wire}
use Rattle.table.specs.declared.Queued.{Queued}
use Rattle.table.specs.declared.Message.TheVariants as msg
use Rattle.table.specs.Formed.{due, names}
use Rattle.facts.specs.Messages.{GrantFacts, proper}
use Rattle.kept.specs.Moment.{Moment}

module _ (n : ℕ) (rooms : ℕ → Room) (queue : List Queued) (messages : List Wire) (hand : ℕ → ℕ) (loose : ℕ)
    (s : Moment n rooms queue messages hand loose) where
  -- a room whose name is in hand is named by nothing else
  pub in-hand : (y : ℕ) → y < n → 1 ≤ hand y → names queue messages y ≡ 0
  in-hand y l h = omega (arith, s.named y l, one-le (ltb 0 (due (rooms y))))

  -- a room that does not wait is named by nothing
  pub unwaiting : (y : ℕ) → y < n → due (rooms y) ≡ 0 → names queue messages y ≡ 0
  unwaiting y l h = omega (arith, s.named y l, ap (λ (m : ℕ). one (ltb 0 m)) h)

  -- no GRANT is under way to the room with the token
  pub ungranted : (x : ℕ) → (rooms x).token ≡ true → (w : Wire) → Mem w messages → w.to ≡ x → (m l : ℕ) → w.message ≡ msg.Grant m l → ⊥
  ungranted x t w i to m l e =
      let grant : GrantFacts (rooms w.to) m = rw e at (proper (s.right w i).facts) in
      clash (ap (λ (c : ℕ). (rooms c).token) to ∙ t) grant.without

  -- no REQUEST was begun by the room with the token
  pub unasked : (x : ℕ) → (rooms x).token ≡ true → (w : Wire) → Mem w messages → (m : ℕ) (idle : Bool) → w.message ≡ msg.Request x m idle → ⊥
  unasked x t w i m idle e = clash t ((s.right w i).unowned x m idle e)
