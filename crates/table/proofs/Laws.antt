-- A law for each branch of the fresh table and of the search, over plain values.
use mathlib.Core.Path.{◌≡◌, refl, sym, ap, ◌∙◌}
use mathlib.Core.Bool.{true, false, ◌&&◌, and-false}
use mathlib.Core.List.{List, [], ◌∷◌}
use Prim.Native.Nat.{ℕ, zero, suc, ◌+◌, ◌≤◌, ◌<◌}
use native.Mathlib.Omega.{arith}
use lib.ListN.{length, get_or, set, replicate, take, length-take}
use lib.Seq.{get_or-take}
use borrow.Author.Tests.{le-leb, lt-leb}
use Rattle.room.specs.declared.Room.{Room}
use Rattle.room.specs.Limits.{room_limit}
use Rattle.table.specs.Limits.{wire_limit}
use Rattle.room.specs.Record.{blank_room, with_token}
use Rattle.table.specs.declared.Table.{Table}
use Rattle.table.specs.declared.Wire.{Wire}
use Rattle.table.specs.declared.refusal.Refusal.{Refusal}
use Rattle.table.specs.Numbers.{ROOM, number_of}
use Rattle.table.proofs.Known.{number-some}
use Rattle.base.specs.Choice.{split}
use lib.Dec.{leb}
use Rattle.std.specs.Prelude.{Some, None, Err, position, min}
use Rattle.std.specs.List.{position_or_len}
use Rattle.std.proofs.lemmas.Grind.{common_steps}
use Rattle.std.proofs.lemmas.List.Sums.{fails_before_first}
use Rattle.std.proofs.lemmas.List.Quantifiers.{position-Some}
use Rattle.table.specs.Tables.{no_wire, empty_table, fresh_table, blank_table, fresh_of, Answer, answer, answer_in}
use Rattle.table.specs.Oldest.{found_at, between, oldest_in, oldest_of}

-- the fresh table at the values that the calls give, and what is refused
module _ (n : ℕ) (r : Room) (e : r ≡ blank_room) (t : Table) where
  pub fresh-done : n ≤ room_limit → 1 ≤ n → t ≡ empty_table n (set (replicate room_limit r) 0 (with_token r true r.toward)) → answer 0 t ≡ fresh_of n
  unfolding fresh_of fresh_table
  fresh-done h k q = rw (q, e) (simp (le-leb 1 n k, le-leb n room_limit h))

module _ (n : ℕ) where
  pub fresh-low : n < 1 → answer 3 blank_table ≡ fresh_of n
  unfolding fresh_of
  fresh-low h = simp (lt-leb 1 n h)

  pub fresh-high : room_limit < n → answer 3 blank_table ≡ fresh_of n
  unfolding fresh_of
  fresh-high h = simp (lt-leb n room_limit h, and-false)

  -- nothing else refuses it
  pub fresh_room : (why : Refusal) → answer_in blank_table (Err why) ≡ fresh_of n → number_of why ≡ ROOM
  unfolding fresh_of
  fresh_room why e =
      split (leb 1 n && leb n room_limit)
      (λ h. absurd (number-some why (ap (λ (a : Answer). a.«number») e ∙ simp h)))
      (λ h. ap (λ (a : Answer). a.«number») e ∙ simp h)

-- the search for the first message is that for its place
module _ (a b : ℕ) where
  pub search-hit : (ws : List Wire) (k i : ℕ) → i < length ws → between a b (get_or ws i no_wire) ≡ true → ((j : ℕ) → j < i → between a b (get_or ws j no_wire) ≡ false)
      → oldest_in a b k ws ≡ Some (found_at (k + i) (get_or ws i no_wire).message)
  unfolding oldest_in
  search-hit [] k i h p q = absurd (omega arith)
  search-hit (w ∷ ws) k zero h p q = simp p (ap (λ j. Some (found_at j w.message)) (omega arith))
  search-hit (w ∷ ws) k (suc i) h p q =
      let here : between a b w ≡ false = q 0 (omega arith) in
      simp here (search-hit ws (suc k) i (omega arith) p (λ j l. q (suc j) (omega arith)) ∙ ap (λ j. Some (found_at j (get_or ws i no_wire).message)) (omega arith))

  pub search-miss : (ws : List Wire) (k : ℕ) → ((j : ℕ) → j < length ws → between a b (get_or ws j no_wire) ≡ false) → oldest_in a b k ws ≡ None
  unfolding oldest_in
  search-miss [] k q = refl
  search-miss (w ∷ ws) k q =
      let here : between a b w ≡ false = q 0 (omega arith) in
      simp here (search-miss ws (suc k) (λ j l. q (suc j) (omega arith)))

  -- what is read of the first messages is read of all
  same-read : (ws : List Wire) (n k j : ℕ) → j < n → j < k → get_or (take n ws) j no_wire ≡ get_or (take k ws) j no_wire
  same-read ws n k j h l = get_or-take n ws j no_wire h ∙ sym (get_or-take k ws j no_wire l)

  -- of the first n messages, where the first k were looked at: at least these, and none was found
  pub oldest-none : (ws : List Wire) (n k : ℕ) → position (between a b) (take k ws) ≡ None → min n (length ws) ≤ k → oldest_in a b 0 (take n ws) ≡ None
  oldest-none ws n k e h =
      let far : length (take k ws) ≤ position_or_len (between a b) (take k ws) = grind (arith, common_steps) in
      search-miss (take n ws) 0 (λ j l.
      let low : j < min n (length ws) = omega (arith, length-take n ws) in
      ap (between a b) (same-read ws n k j (omega arith) (omega arith))
      ∙ fails_before_first (between a b) (take k ws) j no_wire (omega (arith, length-take k ws)))

  -- none but these, and one was found
  pub oldest-some : (ws : List Wire) (n k i : ℕ) → position (between a b) (take k ws) ≡ Some i → k ≤ n
      → oldest_in a b 0 (take n ws) ≡ Some (found_at i (get_or ws i no_wire).message)
  oldest-some ws n k i e h =
      let p = position-Some (between a b) (take k ws) i no_wire e in
      let low : i < k = omega (arith, length-take k ws, p.0) in
      search-hit (take n ws) 0 i (omega (arith, length-take k ws, length-take n ws, p.0))
      (ap (between a b) (same-read ws n k i (omega arith) low) ∙ p.1)
      (λ j l. ap (between a b) (same-read ws n k j (omega arith) (omega arith)) ∙ p.2 j l)
      ∙ ap (λ j. Some (found_at j (get_or (take n ws) i no_wire).message)) (omega arith)
      ∙ ap (λ w. Some (found_at i w.message)) (get_or-take n ws i no_wire (omega arith))

-- the same of a table, where those that are looked at are the messages in use
module _ (t : Table) (a b : ℕ) (long : length t.wires ≡ wire_limit) (k : ℕ) where
  pub oldest-absent : position (between a b) (take k t.wires) ≡ None → min t.count wire_limit ≤ k → None ≡ oldest_of t a b
  unfolding oldest_of
  oldest-absent e h = sym (oldest-none a b t.wires t.count k e (omega (arith, long)))

  pub oldest-present : (i : ℕ) → position (between a b) (take k t.wires) ≡ Some i → k ≤ t.count
      → Some (found_at i (get_or t.wires i no_wire).message) ≡ oldest_of t a b
  unfolding oldest_of
  oldest-present i e h = sym (oldest-some a b t.wires t.count k i e h)
