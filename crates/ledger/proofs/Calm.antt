-- LEDGER is kept by what changes no loan: modes held and wanted, and REQUESTs.
use Rattle.std.specs.Prelude.{◌≡◌, ◌≢◌, Bool, List, [], ◌∷◌, ◌++◌, ℕ}
use Rattle.std.proofs.Math.Path.{refl, sym}
use Rattle.std.proofs.Common.{◌∙◌, ap}
use Rattle.base.specs.Lists.{remove}
use Rattle.base.specs.Folds.{folds}
use Rattle.room.specs.declared.Room.{Room}
use Rattle.room.specs.declared.Entry.{Entry}
use Rattle.room.specs.Record.{entry_at, with_modes}
use Rattle.table.specs.declared.Wire.{Wire}
use Rattle.table.specs.declared.Message.TheVariants as msg
use Rattle.facts.specs.Wires.{wire}
use Rattle.ledger.specs.Loans.{flush, owe, arriving, debt, Ledger}
use Rattle.ledger.proofs.Frames.{alike, still}
use Rattle.ledger.proofs.Lends.{pair-kept}
use Rattle.ledger.proofs.Takes.{Oldest, gone-still}

pub ledger-modes : (n : ℕ) (old new : ℕ → Room) (messages : List Wire) (me h v : ℕ) → ((c : ℕ) → c ≢ me → new c ≡ old c)
    → new me ≡ with_modes (old me) h v → Ledger n old messages → Ledger n new messages
unfolding debt
ledger-modes n old new messages me h v others here ledger p c lp lc ne =
    ap (λ (e : Entry). folds (arriving flush c p) e messages) (alike old new me others (λ r. entry_at r c) (rw here refl) p)
    ∙ ledger p c lp lc ne
    ∙ sym (ap (λ (e : Entry). folds (arriving owe p c) e messages) (alike old new me others (λ r. debt r p) (rw here refl) c))

module _ (n : ℕ) (rooms : ℕ → Room) (messages : List Wire) (ledger : Ledger n rooms messages) (o m : ℕ) (idle : Bool) where
  pub ledger-ask : (x y : ℕ) → Ledger n rooms (messages ++ (wire x y (msg.Request o m idle) ∷ []))
  unfolding flush owe
  ledger-ask x y p c lp lc ne =
      pair-kept rooms rooms messages (wire x y (msg.Request o m idle)) p c refl refl
      (λ e. still flush c p e (wire x y (msg.Request o m idle)) refl) (λ e. still owe p c e (wire x y (msg.Request o m idle)) refl) (ledger p c lp lc ne)

  pub ledger-heard : (k x y : ℕ) → Oldest messages k x y (msg.Request o m idle) → Ledger n rooms (remove k messages)
  unfolding flush owe
  ledger-heard k x y at p c lp lc ne =
      gone-still messages k x y (msg.Request o m idle) at flush (λ e. refl) c p (entry_at (rooms p) c) ∙ ledger p c lp lc ne
      ∙ sym (gone-still messages k x y (msg.Request o m idle) at owe (λ e. refl) p c (debt (rooms c) p))
