-- The fresh table of n rooms is well formed, in arrays as long as their types say, and no REQUEST is under way.
use Rattle.std.specs.Prelude.{◌≡◌, ◌≢◌, true, [], replicate}
use Rattle.std.proofs.Math.Path.{refl, sym, ap, subst⁻¹}
use Rattle.std.proofs.Common.{◌∙◌}
use Rattle.std.proofs.lemmas.Bool.{false≢true}
use mathlib.Core.List.Memᴰ
use Prim.Native.Nat.{ℕ, zero, suc, ◌≤◌, ◌<◌}
use native.Mathlib.Omega.{arith}
use Rattle.std.proofs.Math.ListN.{length, get_or-replicate}
use Rattle.std.proofs.Math.Seq.{get_or-set_other}
use Rattle.base.specs.Sums.{one, sum_bound, sum-differ}
use Rattle.base.specs.Lists.{total}
use Rattle.base.specs.Arrays.{padded}
use Rattle.std.proofs.lemmas.Option.{none-some}
use Rattle.room.specs.declared.Room.{Room}
use Rattle.room.specs.Limits.{room_limit}
use Rattle.room.specs.Record.{no_entry, no_room, blank_room, entry_at, with_token}
use Rattle.table.specs.Tables.{room_at, fresh_table}
use Rattle.table.specs.Formed.{due, tokens, names}
use Rattle.facts.specs.Shapes.{Shaped}
use Rattle.facts.specs.Rooms.{RoomFacts, EntryFacts}
use Rattle.facts.specs.Due.{due-none}
use Rattle.facts.specs.Whole.{WellFormed, test_of}
use Rattle.kept.specs.After.{Lawful}

-- the room with the token, blank otherwise
abbrev pub first : Room
first = with_token blank_room true 0

module _ (n : ℕ) where
  room-first : room_at (fresh_table n) 0 ≡ first
  unfolding fresh_table
  room-first = refl

  pub room-other : (c : ℕ) → c < room_limit → c ≢ 0 → room_at (fresh_table n) c ≡ blank_room
  unfolding fresh_table
  room-other c l e =
      get_or-set_other (replicate room_limit blank_room) 0 c first no_room e ∙ get_or-replicate room_limit c blank_room no_room l

module _ (n : ℕ) (some : 1 ≤ n) (small : n ≤ room_limit) where
  -- what holds of the first room with the token and of each other blank room holds of every room
  pub room-each : (P : ℕ → Room → Type 0) → P 0 first → ((c : ℕ) → c < room_limit → c ≢ 0 → P c blank_room)
      → (c : ℕ) → c < room_limit → P c (room_at (fresh_table n) c)
  unfolding fresh_table
  room-each P p q zero l = p
  room-each P p q (suc c) l = subst⁻¹ (P (suc c)) (room-other n (suc c) l (λ e. omega arith)) (q (suc c) l (λ e. omega arith))

  entry-fresh : (c j : ℕ) → EntryFacts n c j no_entry
  entry-fresh c j = record { code = omega arith; unlinked = λ e. refl; outside = λ e. refl; own = λ e. refl }

  blank-entries : (c j : ℕ) → j < room_limit → EntryFacts n c j (entry_at blank_room j)
  blank-entries c j l = rw (get_or-replicate room_limit j no_entry no_entry l) (entry-fresh c j)

  first-facts : RoomFacts n 0 first
  first-facts =
      record {
        held-code = omega arith;
        wanted-code = omega arith;
        credit-code = omega arith;
        toward-low = some;
        lender-low = λ e. absurd (e refl);
        toward-token = λ e. refl;
        token-toward = λ e. refl;
        lender-other = λ e. none-some _ e;
        unlinked = λ e. refl;
        nobody-none = λ e. refl;
        none-nobody = λ e. refl;
        token-free = λ e. refl;
        U-token = λ e. refl;
        W-token = λ e. refl;
        upgrade = λ p z. absurd (p refl);
        entry = blank-entries 0;
      }

  blank-facts : (c : ℕ) → c < n → c ≢ 0 → RoomFacts n c blank_room
  blank-facts c l ne =
      record {
        held-code = omega arith;
        wanted-code = omega arith;
        credit-code = omega arith;
        toward-low = some;
        lender-low = λ e. absurd (e refl);
        toward-token = λ e. absurd (ne (sym e));
        token-toward = λ e. absurd (false≢true e);
        lender-other = λ e. none-some _ e;
        unlinked = λ e. refl;
        nobody-none = λ e. refl;
        none-nobody = λ e. refl;
        token-free = λ e. refl;
        U-token = λ e. absurd (omega arith);
        W-token = λ e. absurd (omega arith);
        upgrade = λ p z. absurd (p refl);
        entry = blank-entries c;
      }

  room-facts : (c : ℕ) → c < n → RoomFacts n c (room_at (fresh_table n) c)
  room-facts c l = room-each (λ c r. c < n → RoomFacts n c r) (λ l. first-facts) (λ c b e l. blank-facts c l e) c (omega arith) l

  -- only room 0 has the token
  one_token : tokens n (room_at (fresh_table n)) [] ≡ 1
  unfolding tokens total
  one_token = omega (
    arith,
    sum_bound n 0 (λ c. 0) (λ c l. omega arith),
    sum-differ n (λ c. 0) (λ c. one (room_at (fresh_table n) c).token) 0 some (λ c l e. sym (ap (λ (r : Room). one r.token) (room-other n c (omega arith) e))),
    ap (λ (r : Room). one r.token) (room-first n),
  )

  no_due : (c : ℕ) → c < n → due (room_at (fresh_table n) c) ≡ 0
  no_due c l = room-each (λ c r. due r ≡ 0) (due-none first refl) (λ c b e. due-none blank_room refl) c (omega arith)

  shaped : Shaped (fresh_table n)
  unfolding fresh_table
  shaped =
      record {
        rooms = refl;
        entries = room-each (λ c r. length r.entries ≡ room_limit) refl (λ c b e. refl);
        queue = refl;
        wires = refl;
      }

  facts : WellFormed (fresh_table n)
  unfolding fresh_table names total padded
  facts =
      record {
        some = some;
        low = small;
        queued = omega arith;
        count = omega arith;
        formed =
            record {
              room = room-facts;
              queued = λ q m. absurd (Memᴰ.not-nil m);
              message = λ w m. absurd (Memᴰ.not-nil m);
              token = one_token;
              named = λ c l. rw (no_due c l) refl;
            };
        rooms-blank = λ c a b. room-other n c b (λ e. omega arith);
        queue-blank = refl;
        wires-blank = refl;
      }

  pub fresh-has : Lawful (fresh_table n)
  unfolding fresh_table
  fresh-has = (test_of (fresh_table n) shaped facts, λ w m. absurd (Memᴰ.not-nil m), shaped)
