-- A table made by hand that has the invariant: room 1 reads by a loan from room 2, which has its own loan from room 0 and asks for a read
-- of its own. Its REQUEST, which says that it owned something, is on the wire to room 1.
use Rattle.std.specs.Prelude.{ℕ, ◌+◌, ◌<◌, ◌≡◌, refl, Bool, true, false, not, ◌&&◌, List, [], ◌∷◌, ltb, leb, eqb, length, get_or, set, replicate}
use Rattle.std.proofs.Common.{sym, ◌∙◌, ap, inl, true≢false, arith, ltb-true, leb-true, eqb-true, eq-eqb, ne_eqb}
use mathlib.Core.List.Memᴰ
use Rattle.std.proofs.lemmas.Bool.{not-true}
use Rattle.base.specs.Tests.{◌implies◌, implies-use, and_left, and_right, clash}
use Rattle.base.specs.Below.{all_below, all_pairs, all-at, pairs-at}
use Rattle.base.specs.Sums.{sum}
use Rattle.base.specs.Lists.{Mem, total}
use Rattle.base.specs.Folds.{folds}
use Rattle.std.specs.Prelude.{Some, is_none}
use Rattle.modes.specs.Codes.{none, IR, R}
use Rattle.modes.specs.Modes.{agrees, is_stronger}
use Rattle.modes.specs.Under.{small}
use Rattle.room.specs.declared.Room.{Room}
use Rattle.room.specs.declared.Entry.{Entry}
use Rattle.room.specs.Limits.{room_limit}
use Rattle.room.specs.Record.{entry_at, blank_room, with_modes, with_token, with_debt, with_counter, set_entry, lender_of, is_lender}
use Rattle.room.specs.Owned.{larger, strongest, owned}
use Rattle.room.proofs.Lenders.{is-lender, some-is}
use Rattle.table.specs.declared.Table.{Table}
use Rattle.table.specs.declared.Wire.{Wire}
use Rattle.table.specs.declared.Message.{Message}
use Rattle.table.specs.declared.Message.TheVariants as msg
use Rattle.table.specs.Limits.{queue_limit, wire_limit}
use Rattle.table.specs.Tables.{no_wire, no_queued, room_at, messages_of}
use Rattle.table.specs.Formed.{sizes_fit, entry_fine, room_fine, holds_rightly, owes_rightly, entries_fine, is_blank_entry, is_blank_room, due, is_blank_queued, message_fine, is_granted, names_rightly, wire_fine, is_nothing, is_blank_wire, is_token, tokens, is_named_in, names, rooms_fine, queue_fine, wires_fine, names_fine, well_formed}
use Rattle.rules.specs.Rules.{upgrade_waits}
use Rattle.rules.specs.Limits.{worn_limit}
use Rattle.facts.specs.Whole.{facts-of}
use Rattle.facts.specs.Wires.{wire}
use Rattle.kept.specs.After.{Lawful}
use Rattle.kept.specs.Start.{sound}
use Rattle.ledger.specs.Loans.{flush, owe, arriving, debt, flushed, owed, Ledger}
use Rattle.ledger.specs.Links.{reach, Links}
use Rattle.ledger.proofs.Senders.{sender-none}
use Rattle.owning.specs.Parts.{part}
use Rattle.owning.specs.Clauses.{Small, Pairs}
use Rattle.tree.specs.Tree.{is_grant, Tree}
use Rattle.facts.specs.Names.{is_request}
use Rattle.bounds.specs.Bounds.{level, weight}
use Rattle.safe.specs.Invariant.{Clauses}
use Rattle.safe.specs.Step.{Safe}

-- a loan of a read, under link number 1
abbrev loan : Entry
loan = record { mode = R; link = 1 }

-- room 0 has the token and has lent to room 2
abbrev lending : Room
lending = with_counter (set_entry (with_token blank_room true 0) 2 loan) 1

-- room 1 reads by a loan from room 2
abbrev reading : Room
reading = with_debt (with_modes blank_room R none) (Some 2) R 1

-- room 2 has lent to room 1, by a loan from room 0, and waits for a read
abbrev waiting : Room
waiting = with_counter (set_entry (with_debt (with_token (with_modes blank_room none R) false 1) (Some 0) R 1) 1 loan) 1

unfoldable pub crossing : Table
crossing =
    record {
      n = 3;
      rooms = set (set (set (replicate room_limit blank_room) 0 lending) 1 reading) 2 waiting;
      queue = replicate queue_limit no_queued;
      queued = 0;
      wires = set (replicate wire_limit no_wire) 0 (wire 2 1 (msg.Request 2 R false));
      count = 1;
    }

abbrev rooms : ℕ → Room
rooms = room_at crossing

abbrev messages : List Wire
messages = messages_of crossing

-- the one message
only : (w : Wire) → Mem w messages → w.message ≡ msg.Request 2 R false
unfolding crossing
only w i = ap (λ (v : Wire). v.message) (Memᴰ.eq_of_singleton i)

-- no GRANT, TOKEN or REDUCE is under way
other : {C : Type 0} (w : Wire) → Mem w messages → (m : Message) → w.message ≡ m → is_request m ≡ false → C
unfolding is_request
other w i m e h = clash (ap is_request (sym e ∙ only w i)) h

-- well formed, by the test
lawful : Lawful crossing
unfolding crossing well_formed sizes_fit rooms_fine room_fine holds_rightly owes_rightly is_lender entries_fine entry_fine is_blank_room is_blank_entry queue_fine is_blank_queued
    wires_fine wire_fine message_fine is_granted names_rightly is_blank_wire is_nothing tokens is_token names_fine names is_named_in due sum total
lawful = (refl, unowned, record { rooms = refl; entries = entries; queue = refl; wires = refl })
  where
    unowned : (w : Wire) → Mem w messages → (o m : ℕ) (idle : Bool) → w.message ≡ msg.Request o m idle → (rooms o).token ≡ false
    unowned w i o m idle e = let z : o ≡ 2 = cc (only w i) in rw z refl

    entries : (c : ℕ) → c < room_limit → length (rooms c).entries ≡ room_limit
    entries c l = eqb-true _ _ (all-at room_limit (λ c. eqb (length (rooms c).entries) room_limit) refl c l)

-- two entries are the same by test
same-entry : (d e : Entry) → (eqb d.mode e.mode && eqb d.link e.link) ≡ true → d ≡ e
same-entry d e h = λ i. record { mode = mode i; link = link i }
  where
    mode : d.mode ≡ e.mode
    mode = eqb-true _ _ (and_left _ _ h)

    link : d.link ≡ e.link
    link = eqb-true _ _ (and_right (eqb d.mode e.mode) _ h)

ledger : Ledger 3 rooms messages
unfolding crossing folds arriving flush owe debt is_lender
ledger p c lp lc ne =
    same-entry (flushed rooms messages p c) (owed rooms messages p c)
    (implies-use (not (eqb p c)) _ (pairs-at 3 alike refl p c lp lc) (ap not (ne_eqb p c ne)))
  where
    alike : ℕ → ℕ → Bool
    alike p c =
        let d = flushed rooms messages p c in
        let e = owed rooms messages p c in
        not (eqb p c) implies (eqb d.mode e.mode && eqb d.link e.link)

links : Links 3 rooms messages
unfolding crossing folds arriving is_request is_lender
links =
    record {
      reduce = λ w i l m e. other w i _ e refl;
      debt = λ p c lp lc e. leb-true _ _ (implies-use (is_lender (rooms c).lender p) _ (pairs-at 3 within refl p c lp lc) (is-lender _ _ e));
      grant = λ w i m l e. other w i _ e refl;
      differs = λ w i m l e. other w i _ e refl;
    }
  where
    within : ℕ → ℕ → Bool
    within p c = is_lender (rooms c).lender p implies leb (rooms c).link (reach rooms messages p c)

smalls : Small 3 rooms messages
unfolding crossing small is_request
smalls =
    record {
      entry = λ c j l h. all-at room_limit (is_small c) (all-at 3 (λ c. all_below room_limit (is_small c)) refl c l) j h;
      rest = λ w i m rest l e. other w i _ e refl;
      new = λ w i l m e. other w i _ e refl;
    }
  where
    is_small : ℕ → ℕ → Bool
    is_small c j = small (entry_at (rooms c) j).mode

pairs : Pairs 3 rooms messages
unfolding crossing part agrees is_request
pairs =
    record {
      room = λ c l i j a b ne.
          implies-use (not (eqb i j)) _ (pairs-at (room_limit + 1) (agree c) (each c l) i j (omega arith) (omega arith)) (ap not (ne_eqb i j ne));
      both = λ w i m rest l e. other w i _ e refl;
      mode = λ w i m rest l e. other w i _ e refl;
      rest = λ w i m rest l e. other w i _ e refl;
    }
  where
    agree : ℕ → ℕ → ℕ → Bool
    agree c i j = not (eqb i j) implies agrees (part (rooms c) i) (part (rooms c) j)

    -- the entries, and behind them the held mode
    each : (c : ℕ) → c < 3 → all_pairs (room_limit + 1) (agree c) ≡ true
    each c l = all-at 3 (λ c. all_pairs (room_limit + 1) (agree c)) refl c l

-- room 0 ranks below room 2, and that below room 1
tree : Tree 3 rooms messages
unfolding crossing is_grant
tree =
    record {
      rank = rank;
      lender = λ c l ne free. ltb-true _ _ (implies-use (not (is_none (rooms c).lender)) _ (all-at 3 above refl c l) (ap not (some-is _ ne)));
      grant = λ w i h. clash h (rw (only w i) refl);
    }
  where
    rank : ℕ → ℕ
    rank c = get_or (0 ∷ 2 ∷ 1 ∷ []) c 0

    above : ℕ → Bool
    above c = not (is_none (rooms c).lender) implies ltb (rank (lender_of (rooms c))) (rank c)

clauses : Clauses 3 rooms [] messages 0
unfolding crossing is_token sum total level weight is_request
clauses =
    record {
      ledger = ledger;
      links = links;
      sender = sender-none rooms messages (λ w i. rw (only w i) refl);
      small = smalls;
      pairs = pairs;
      fits = λ w i m l e. other w i _ e refl;
      idle = λ w i o m e. let z : true ≡ false = cc (only w i) in absurd (true≢false z);
      tree = tree;
      few = leb-true _ _ refl;
      counters = λ c l. ltb-true _ _ (all-at 3 (λ c. ltb ((rooms c).counter + 1) (worn_limit + 3)) refl c l);
    }

pub crossing-safe : Safe 3 crossing
unfolding crossing upgrade_waits larger strongest owned is_stronger
crossing-safe =
    record {
      rooms = refl;
      lawful = lawful;
      invariant =
          record {
            sound = sound crossing lawful.2 (facts-of crossing lawful.2 lawful.0) lawful.1;
            clauses = clauses;
            exact = λ c l t. eqb-true _ _ (implies-use (not (rooms c).token) _ (all-at 3 exact refl c l) (ap not t));
            light = λ c l e. clash (eq-eqb _ _ e) (not-true _ (all-at 3 (λ c. not (eqb (rooms c).wanted IR)) refl c l));
            served =
                record {
                  upgrade = λ c l t u. clash u (not-true _ (all-at 3 (λ c. not (upgrade_waits (rooms c))) refl c l));
                  head = λ c l t u. inl refl;
                };
          };
    }
  where
    exact : ℕ → Bool
    exact c = not (rooms c).token implies eqb (rooms c).credit (owned (rooms c))
