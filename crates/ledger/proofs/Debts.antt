-- What a room owes once all is delivered: what its record says, or what the last GRANT or TOKEN under way to it says.
use Rattle.std.specs.Prelude.{◌≡◌, refl, ◌≢◌, ◌⊎◌, Bool, true, false, List, [], ◌∷◌, ℕ}
use Rattle.std.proofs.Common.{sym, ◌∙◌, inl, inr, true≢false, arith, le-ltb, ne_eqb}
use Rattle.std.proofs.Math.Bool.{and-false}
use mathlib.Core.List.Memᴰ
use Rattle.base.specs.Choice.{split}
use Rattle.base.specs.Lists.{Mem}
use Rattle.base.specs.Folds.{folds, folds-still}
use Rattle.std.specs.Prelude.{Some}
use Rattle.modes.specs.Codes.{none}
use Rattle.modes.proofs.Laws.{stronger-larger}
use Rattle.room.specs.declared.Room.{Room}
use Rattle.room.specs.declared.Entry.{Entry}
use Rattle.room.specs.Record.{no_entry}
use Rattle.room.proofs.Lenders.{is-lender, not-lender}
use Rattle.table.specs.declared.Wire.{Wire}
use Rattle.table.specs.declared.Message.{Message}
use Rattle.table.specs.declared.Message.TheVariants as msg
use Rattle.table.specs.Oldest.{between}
use Rattle.ledger.specs.Loans.{flush, owe, arriving, debt}
use Rattle.ledger.proofs.Arrivals.{arriving-other, arriving-this}

-- a GRANT or a TOKEN decides what is owed
unfoldable pub is_setting : Message → Bool
is_setting msg.Nothing = false
is_setting (msg.Request o m idle) = false
is_setting (msg.Grant m l) = true
is_setting (msg.Token m rest l) = true
is_setting (msg.Reduce l m) = false

-- what a message that decides says is owed
abbrev pub says : Message → Entry
says m = owe no_entry m

-- what is owed over a list of messages: what it was, or what one of them says
pub record Set (p c : ℕ) (messages : List Wire) : Type 0 where
  pub by : Wire
  pub mem : Mem by messages
  pub on : between p c by ≡ true
  pub setting : is_setting by.message ≡ true
  pub owes : (e : Entry) → folds (arriving owe p c) e messages ≡ says by.message

owe-kept : (m : Message) → is_setting m ≡ false → (e : Entry) → owe e m ≡ e
unfolding is_setting owe
owe-kept msg.Nothing h e = refl
owe-kept (msg.Request o m idle) h e = refl
owe-kept (msg.Grant m l) h e = absurd (true≢false h)
owe-kept (msg.Token m rest l) h e = absurd (true≢false h)
owe-kept (msg.Reduce l m) h e = refl

owe-set : (m : Message) → is_setting m ≡ true → (e : Entry) → owe e m ≡ says m
unfolding is_setting owe
owe-set msg.Nothing h e = absurd (true≢false (sym h))
owe-set (msg.Request o m idle) h e = absurd (true≢false (sym h))
owe-set (msg.Grant m l) h e = refl
owe-set (msg.Token m rest l) h e = refl
owe-set (msg.Reduce l m) h e = absurd (true≢false (sym h))

-- one message in front
kept-or-set : (p c : ℕ) (w : Wire) → ((e : Entry) → arriving owe p c e w ≡ e) ⊎ ((between p c w ≡ true) × (is_setting w.message ≡ true))
kept-or-set p c w =
    split (between p c w)
    (λ b. split (is_setting w.message)
    (λ s. inr (b, s))
    (λ s. inl (λ e. arriving-this owe p c w b e ∙ owe-kept w.message s e)))
    (λ b. inl (arriving-other owe p c w b))

pub owes : (p c : ℕ) (messages : List Wire) → ((e : Entry) → folds (arriving owe p c) e messages ≡ e) ⊎ Set p c messages
unfolding folds
owes p c [] = inl (λ e. refl)
owes p c (w ∷ l) = go (owes p c l) (kept-or-set p c w)
  where
    go : ((e : Entry) → folds (arriving owe p c) e l ≡ e) ⊎ Set p c l
        → ((e : Entry) → arriving owe p c e w ≡ e) ⊎ ((between p c w ≡ true) × (is_setting w.message ≡ true))
        → ((e : Entry) → folds (arriving owe p c) e (w ∷ l) ≡ e) ⊎ Set p c (w ∷ l)
    go (inr s) k =
        inr (record {
          by = s.by;
          mem = Memᴰ.tail s.mem;
          on = s.on;
          setting = s.setting;
          owes = λ e. s.owes (arriving owe p c e w);
        })
    go (inl s) (inl k) = inl (λ e. s (arriving owe p c e w) ∙ k e)
    go (inl s) (inr k) =
        inr (record {
          by = w;
          mem = Memᴰ.head refl;
          on = k.0;
          setting = k.1;
          owes = λ e. s (arriving owe p c e w) ∙ arriving-this owe p c w k.0 e ∙ owe-set w.message k.1 e;
        })

-- with no GRANT and no TOKEN on the wire, what was owed
pub owes-kept : (p c : ℕ) (messages : List Wire) → ((w : Wire) → Mem w messages → between p c w ≡ true → is_setting w.message ≡ false)
    → (e : Entry) → folds (arriving owe p c) e messages ≡ e
owes-kept p c messages h e =
    folds-still (arriving owe p c) e messages λ w m.
    split (between p c w) (λ b. arriving-this owe p c w b e ∙ owe-kept w.message (h w m b) e) (λ b. arriving-other owe p c w b e)

-- what a record says that it owes
module _ (r : Room) (p : ℕ) where
  pub debt-here : r.lender ≡ Some p → debt r p ≡ record { mode = r.credit; link = r.link }
  unfolding debt
  debt-here h = simp (is-lender r.lender p h)

  pub debt-none : r.lender ≢ Some p → debt r p ≡ no_entry
  unfolding debt
  debt-none h = simp (not-lender r.lender p h)

-- a REDUCE leaves an entry under another link number, and no entry
pub flush-other : (e : Entry) (l m : ℕ) → e.link ≢ l → flush e (msg.Reduce l m) ≡ e
unfolding flush
flush-other e l m h = simp (ne_eqb e.link l h)

pub flush-none : (l m : ℕ) → flush no_entry (msg.Reduce l m) ≡ no_entry
unfolding flush
flush-none l m = simp (sym (stronger-larger none m) ∙ le-ltb m none (omega arith), and-false)
