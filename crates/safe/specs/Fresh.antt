-- The fresh table of n rooms has the invariant: nothing is lent, nothing is under way.
use Rattle.std.specs.Prelude.{◌≡◌, ◌≢◌, false, ℕ, ◌≤◌, ◌<◌, ltb, replicate}
use Rattle.std.proofs.Math.Path.{refl, sym, ap}
use Rattle.std.proofs.Common.{◌∙◌, arith, ltb-true}
use Rattle.std.proofs.Math.Logic.{inl}
use mathlib.Core.List.Memᴰ
use mathlib.Core.List.{[]}
use Rattle.std.proofs.lemmas.List.{get_or-replicate}
use Rattle.base.specs.Choice.{by-test}
use Rattle.base.specs.Tests.{clash}
use Rattle.base.specs.Folds.{folds}
use Rattle.std.specs.Prelude.{Some, None}
use Rattle.modes.specs.Codes.{none}
use Rattle.modes.proofs.Laws.{none-agrees, low_small}
use Rattle.room.specs.declared.Room.{Room}
use Rattle.room.specs.declared.Entry.{Entry}
use Rattle.room.specs.Limits.{room_limit}
use Rattle.room.specs.Record.{no_entry, entry_at}
use Rattle.room.specs.Owned.{owned}
use Rattle.room.proofs.Owning.{owned-none, no-entries-of}
use Rattle.room.proofs.Lenders.{nobody-lends}
use Rattle.table.specs.Tables.{room_at, queue_of, messages_of, fresh_table}
use Rattle.rules.specs.Rules.{upgrade_waits}
use Rattle.facts.specs.Whole.{facts-of}
use Rattle.kept.specs.Start.{sound}
use Rattle.kept.specs.Fresh.{room-each, fresh-has}
use Rattle.ledger.proofs.Debts.{debt-none}
use Rattle.ledger.proofs.Senders.{sender-none}
use Rattle.owning.specs.Parts.{part}
use Rattle.owning.specs.Clauses.{Agreeing}
use Rattle.bounds.proofs.Limits.{messages-fresh, counters-fresh}
use Rattle.safe.specs.Invariant.{Clauses, Invariant}

-- What is so of a record that is none or zero but for its token and its way to it.
pub record Blank (r : Room) : Type 0 where
  pub held : r.held ≡ 0
  pub wanted : r.wanted ≡ 0
  pub lender : r.lender ≡ None
  pub credit : r.credit ≡ 0
  pub counter : r.counter ≡ 0
  pub entries : r.entries ≡ replicate room_limit no_entry

module _ (n : ℕ) (some : 1 ≤ n) (most : n ≤ room_limit) where
  abbrev rooms : ℕ → Room
  rooms = room_at (fresh_table n)

  blank : (c : ℕ) → c < n → Blank (rooms c)
  blank c l =
      room-each n some most (λ c r. Blank r)
      (record { held = refl; wanted = refl; lender = refl; credit = refl; counter = refl; entries = refl })
      (λ c b e. record { held = refl; wanted = refl; lender = refl; credit = refl; counter = refl; entries = refl }) c (omega arith)

  no-entry : (c j : ℕ) → c < n → j < room_limit → entry_at (rooms c) j ≡ no_entry
  no-entry c j l h = rw (blank c l).entries (get_or-replicate room_limit j no_entry no_entry h)

  -- every mode of a room is none
  no_part : (c i : ℕ) → c < n → part (rooms c) i ≡ 0
  unfolding part
  no_part c i l =
      by-test (λ (m : ℕ). m ≡ 0) (ltb i room_limit) (entry_at (rooms c) i).mode (rooms c).held
      (λ b. ap (λ (e : Entry). e.mode) (no-entry c i l (ltb-true i room_limit b))) (λ b. (blank c l).held)

  owns_nothing : (c : ℕ) → c < n → owned (rooms c) ≡ 0
  owns_nothing c l =
      owned-none (rooms c) (blank c l).held (no-entries-of (rooms c) (λ j h. ap (λ (e : Entry). e.mode) (no-entry c j l h)))

  agreeing : (c : ℕ) → c < n → Agreeing (rooms c)
  agreeing c l i j a b e = rw (no_part c i l, no_part c j l) (none-agrees none (omega arith))

  no-lender : (p c : ℕ) → p < n → c < n → (rooms c).lender ≢ Some p
  no-lender p c lp l e = nobody-lends (blank c l).lender e

  clauses : Clauses n rooms [] [] 0
  unfolding folds
  clauses =
      record {
        ledger = λ p c lp lc e. no-entry p c lp (omega arith) ∙ sym (debt-none (rooms c) p (no-lender p c lp lc));
        links =
            record {
              reduce = λ w i. absurd (Memᴰ.not-nil i);
              debt = λ p c lp lc e. absurd (no-lender p c lp lc e);
              grant = λ w i. absurd (Memᴰ.not-nil i);
              differs = λ w i. absurd (Memᴰ.not-nil i);
            };
        sender = sender-none rooms [] (λ w i. absurd (Memᴰ.not-nil i));
        small =
            record {
              entry = λ c j l h. rw (no-entry c j l h) (low_small none (omega arith));
              rest = λ w i. absurd (Memᴰ.not-nil i);
              new = λ w i. absurd (Memᴰ.not-nil i);
            };
        pairs =
            record {
              room = agreeing;
              both = λ w i. absurd (Memᴰ.not-nil i);
              mode = λ w i. absurd (Memᴰ.not-nil i);
              rest = λ w i. absurd (Memᴰ.not-nil i);
            };
        fits = λ w i. absurd (Memᴰ.not-nil i);
        idle = λ w i. absurd (Memᴰ.not-nil i);
        tree =
            record {
              rank = λ c. 0;
              lender = λ c l e. absurd (e (blank c l).lender);
              grant = λ w i. absurd (Memᴰ.not-nil i);
            };
        few = messages-fresh n rooms (λ c l. (blank c l).credit);
        counters = counters-fresh n rooms (λ c l. (blank c l).counter);
      }

  -- nobody waits for an upgrade
  no-upgrade : (c : ℕ) → c < n → upgrade_waits (rooms c) ≡ false
  unfolding upgrade_waits
  no-upgrade c l = rw (blank c l).held refl

  pub fresh-safe : Invariant n rooms (queue_of (fresh_table n)) (messages_of (fresh_table n))
  unfolding fresh_table
  fresh-safe =
      record {
        sound = let h = fresh-has n some most in sound (fresh_table n) h.2 (facts-of (fresh_table n) h.2 h.0) h.1;
        clauses = clauses;
        exact = λ c l t. (blank c l).credit ∙ sym (owns_nothing c l);
        light = λ c l e. absurd (omega (arith, (blank c l).wanted));
        served =
            record {
              upgrade = λ c l t u. clash u (no-upgrade c l);
              head = λ c l t u. inl refl;
            };
      }
