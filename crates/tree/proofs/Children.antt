-- No children: a room that is not the root and owns nothing is lender of none but the root, and no GRANT of its is under way.
use Rattle.std.specs.Prelude.{◌≡◌, refl, ◌⊎◌, ◌≢◌, List, ℕ, ◌≤◌, ◌<◌}
use Rattle.std.proofs.Common.{sym, ◌∙◌, ap, inl, inr, ⊎_elim, arith}
use Rattle.base.specs.Lists.{Mem, count}
use Rattle.std.specs.Prelude.{Some, None}
use Rattle.modes.specs.Under.{under}
use Rattle.room.specs.declared.Room.{Room}
use Rattle.room.specs.declared.Entry.{Entry}
use Rattle.room.specs.Limits.{room_limit}
use Rattle.room.specs.Record.{entry_at}
use Rattle.room.specs.Owned.{owned}
use Rattle.room.proofs.Owning.{owned-entry}
use Rattle.room.proofs.Lenders.{is-lender, nobody-lends}
use Rattle.table.specs.declared.Wire.{Wire}
use Rattle.table.specs.declared.Message.TheVariants as msg
use Rattle.table.specs.Formed.{is_named_in}
use Rattle.facts.specs.Rooms.{RoomFacts}
use Rattle.facts.specs.Moments.{MessageFacts}
use Rattle.facts.specs.Messages.{GrantFacts, proper}
use Rattle.ledger.specs.Loans.{debt, owed, flushed, Ledger}
use Rattle.owning.specs.Clauses.{Small}
use Rattle.owning.proofs.Falls.{under_none}
use Rattle.tree.specs.Tree.{NoTokenTo}
use Rattle.tree.proofs.Folds.{GrantOn, TokenOn, token-told, owed-by, owed-grant, flushed-by}

module _ (n : ℕ) (rooms : ℕ → Room) (messages : List Wire) (limit : n ≤ room_limit) (facts : (c : ℕ) → c < n → RoomFacts n c (rooms c))
    (right : (w : Wire) → Mem w messages → MessageFacts n rooms w) (ledger : Ledger n rooms messages) (small : Small n rooms messages)
    (y : ℕ) (low : y < n) (untold : NoTokenTo y messages) (idle : owned (rooms y) ≡ 0) where
  -- a GRANT is of some mode
  grant-some : (w : Wire) → Mem w messages → (m l : ℕ) → w.message ≡ msg.Grant m l → 1 ≤ m
  grant-some w member m l is = let grant : GrantFacts (rooms w.to) m = rw is at (proper (right w member)) in grant.some

  -- it has no entry, and none will come
  flushed-none : (c : ℕ) → c < n → (flushed rooms messages y c).mode ≡ 0
  flushed-none c h =
      ⊎_elim
      (λ u. under_none _ (ap (under (flushed rooms messages y c).mode) (sym entry) ∙ u))
      (λ k. absurd (token-told k.1 untold))
      (flushed-by y c (entry_at (rooms y) c) messages small.new)
    where
      entry : (entry_at (rooms y) c).mode ≡ 0
      entry = omega (arith, owned-entry (rooms y) c (omega arith))

  -- so nobody owes it anything
  owed_none : (c : ℕ) → c < n → c ≢ y → (owed rooms messages y c).mode ≡ 0
  owed_none c h other = ap (λ (e : Entry). e.mode) (sym (ledger y c low h (λ e. other (sym e)))) ∙ flushed-none c h

  -- it is lender of no room but one to which a TOKEN is under way
  pub no-borrower : (c : ℕ) → c < n → c ≢ y → NoTokenTo c messages → (rooms c).lender ≢ Some y
  unfolding debt
  no-borrower c h other quiet is = go (owed-by y c (debt (rooms c) y) messages)
    where
      credit : (debt (rooms c) y).mode ≡ (rooms c).credit
      credit = simp (is-lender (rooms c).lender y is)

      go : (owed rooms messages y c ≡ debt (rooms c) y)
          ⊎ (GrantOn messages y c (owed rooms messages y c) ⊎ ((rest : ℕ) × TokenOn messages y c rest)) → ⊥
      go (inl q) =
          let free : (rooms c).lender ≡ None = (facts c h).none-nobody (sym credit ∙ sym (ap (λ (e : Entry). e.mode) q) ∙ owed_none c h other) in
          nobody-lends free is
      go (inr (inl g)) =
          omega (arith, owed_none c h other, grant-some g.wire g.member _ _ g.is)
      go (inr (inr (rest, t))) = token-told t quiet

  -- no GRANT of its is under way, where no room is named twice
  pub no-grant : ((c : ℕ) → c < n → count (λ w. is_named_in c w.to w.message) messages ≤ 1)
      → (w : Wire) → Mem w messages → (m l : ℕ) → w.message ≡ msg.Grant m l → w.«from» ≢ y
  no-grant once w member m l is sender = omega (
    arith,
    ap (λ (e : Entry). e.mode) (owed-grant y w.to (debt (rooms w.to) y) messages m l w member sender refl is (once w.to (right w member).to_low)),
    owed_none w.to (right w member).to_low (λ e. (right w member).apart (sender ∙ sym e)),
    grant-some w member m l is,
  )
