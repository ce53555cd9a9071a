-- What is known of a table where its rooms, its queue and its first i messages have been looked at.
use mathlib.Core.Path.{◌≡◌, refl, sym, ◌∙◌, ap}
use mathlib.Core.Bool.{Bool, true, false, ◌&&◌, and-false}
use mathlib.Core.List.{List, [], ◌∷◌, map}
use Prim.Native.Nat.{ℕ, ◌+◌, ◌≤◌, ◌<◌}
use native.Mathlib.Omega.{arith}
use lib.ListN.{length, get_or, take, drop, length-take}
use lib.Seq.{take_all}
use lib.Dec.{ltb, eqb}
use Rattle.std.specs.Prelude.{Option, Some, None, MatchOption, if◌then◌else◌}
use Rattle.std.specs.Bool.{then_some}
use Rattle.std.specs.List.{list_all, range_with_len}
use Rattle.std.proofs.lemmas.Bool.Decides.{nat_tests}
use Rattle.std.proofs.lemmas.List.FromFn.{get_or-map-range_with_len}
use Rattle.std.proofs.lemmas.List.Folds.{list_all_at, list_all_more}
use Rattle.base.specs.Below.{all-at}
use Rattle.base.specs.Sums.{one, count_below, count-below-le}
use Rattle.base.specs.Lists.{count, count-le, total-none, total-more}
use Rattle.room.specs.Limits.{room_limit}
use Rattle.table.specs.declared.Table.{Table}
use Rattle.table.specs.declared.Queued.{Queued}
use Rattle.table.specs.declared.Wire.{Wire}
use Rattle.table.specs.Limits.{queue_limit, wire_limit}
use Rattle.table.specs.Tables.{no_queued, no_wire, room_at, queue_of, messages_of}
use Rattle.table.specs.Formed.{sizes_fit, room_fine, rooms_fine, is_blank_room, due, queue_fine, queued_fine, is_blank_queued, wires_fine, wire_fine, message_fine, is_blank_wire, tokens, is_token, names, is_named_in, names_fine, well_formed}
use Rattle.records.specs.declared.Seen.{Seen}
use Rattle.records.specs.Parts.{room_place_fine}
use Rattle.records.specs.Seen.{no_standing, standing, standing_at, seen_in}
use Rattle.records.proofs.Lists.{all_same}
use Rattle.formed.specs.declared.wires.Carried.{Carried}
use Rattle.formed.specs.declared.Tally.{Tally}
use Rattle.formed.specs.Standings.{rooms_of}
use Rattle.formed.specs.Names.{named_in, carried_by, times_fine}
use Rattle.formed.specs.Tally.{tally_of}
use Rattle.formed.proofs.Lists.{all-parted, count_past}
use Rattle.formed.proofs.Counted.{Counted, counted-is, counted-so, places_naming}
use Rattle.formed.proofs.Same.{queued-same, wire-same, names_room, named-is, tokens-are, named-low}

-- whether a message names the room c, and whether it is the token
abbrev pub in_message : ℕ → Wire → Bool
in_message c w = is_named_in c w.to w.message

abbrev pub with_token : Wire → Bool
with_token w = is_token w.message

-- how often the queue and the first i messages name a room, and how many tokens the rooms and these messages have
unfoldable pub names_by : Table → ℕ → ℕ → ℕ
names_by t i c = places_naming (queue_of t) c + count (in_message c) (take i (messages_of t))

unfoldable pub tokens_by : Table → ℕ → ℕ
tokens_by t i = count_below t.n (λ c. (room_at t c).token) + count with_token (take i (messages_of t))

-- what an answer that there is, or that there is not, tells of the test that made it
module _ {A : Type 0} where
  there-is : (b : Bool) (x y : A) → Some y ≡ (if b then Some x else None) → (b ≡ true) × (y ≡ x)
  there-is true x y e = (refl, cc)
  there-is false x y e = absurd (cc)

  there_is_not : (b : Bool) (x : A) → None ≡ (if b then Some x else None) → b ≡ false
  there_is_not true x e = absurd (cc)
  there_is_not false x e = refl

  then-is : (b : Bool) (x : A) → then_some b x ≡ (if b then Some x else None)
  then-is true x = refl
  then-is false x = refl

-- sizes that fit
module _ (t : Table) (sizes : sizes_fit t.n t.queued t.count ≡ true) where
  pub few-rooms : t.n ≤ room_limit
  unfolding sizes_fit
  few-rooms = grind (arith, nat_tests)

  pub few-queued : t.queued ≤ queue_limit
  unfolding sizes_fit
  few-queued = grind (arith, nat_tests)

  pub few-wires : t.count ≤ wire_limit
  unfolding sizes_fit
  few-wires = grind (arith, nat_tests)

  -- the queue and the wires, by the places in use and the others
  queue-parts : length t.queue ≡ queue_limit
      → queue_fine t ≡ (list_all (queued_fine t.n (room_at t)) (queue_of t) && list_all is_blank_queued (drop t.queued t.queue))
  unfolding queue_fine
  queue-parts long = all-parted (queued_fine t.n (room_at t)) is_blank_queued no_queued t.queue queue_limit long t.queued few-queued

  wire-parts : length t.wires ≡ wire_limit
      → wires_fine t ≡ (list_all (wire_fine t.n (room_at t)) (messages_of t) && list_all is_blank_wire (drop t.count t.wires))
  unfolding wires_fine
  wire-parts long = all-parted (wire_fine t.n (room_at t)) is_blank_wire no_wire t.wires wire_limit long t.count few-wires

-- a test of each element, by another test that agrees
each-same : {A : Type 0} (f g : A → Bool) → ((x : A) → f x ≡ g x) → (l : List A) → list_all f l ≡ list_all g l
each-same f g h [] = refl
each-same f g h (x ∷ l) = rw (h x, each-same f g h l)

module _ (t : Table) where
  -- a part that is not as it should be
  pub no-sizes : sizes_fit t.n t.queued t.count ≡ false → None ≡ tally_of t
  unfolding tally_of
  no-sizes h = simp h

  pub no-rooms : None ≡ seen_in t.n t.rooms → None ≡ tally_of t
  unfolding tally_of seen_in rooms_fine room_place_fine
  no-rooms e = simp (there_is_not _ _ e, and-false)

  no-queue : queue_fine t ≡ false → None ≡ tally_of t
  unfolding tally_of
  no-queue h = simp (h, and-false)

  no-wires : wires_fine t ≡ false → None ≡ tally_of t
  unfolding tally_of
  no-wires h = simp (h, and-false)

  -- the rooms have been looked over
  module _ (sizes : sizes_fit t.n t.queued t.count ≡ true) (s : Seen) (e : Some s ≡ seen_in t.n t.rooms) where
    seen-all : (rooms_fine t ≡ true) × (s ≡ record {
      tokens = count_below room_limit (λ c. (room_at t c).token);
      standings = record { n = t.n; rooms = map (λ c. standing (room_at t c)) (range_with_len 0 room_limit) };
    })
    unfolding seen_in rooms_fine room_place_fine
    seen-all = there-is _ _ _ e

    same-n : s.standings.n ≡ t.n
    same-n = rw seen-all.1

    known : (c : ℕ) → c < t.n → standing_at s.standings.rooms c ≡ standing (room_at t c)
    known c l = rw seen-all.1 (get_or-map-range_with_len (λ c. standing (room_at t c)) 0 room_limit c c no_standing (omega (arith, few-rooms t sizes)) (omega arith))

    dues : (c : ℕ) → c < t.n → due (rooms_of s.standings.rooms c) ≡ due (room_at t c)
    unfolding due standing
    dues c l = ap (λ s. s.due) (known c l)

    tells : (c : ℕ) → c < t.n → (rooms_of s.standings.rooms c).token ≡ (room_at t c).token
    unfolding standing
    tells c l = ap (λ s. s.token) (known c l)

    unused : (c : ℕ) → t.n ≤ c → c < room_limit → (room_at t c).token ≡ false
    unfolding rooms_fine is_blank_room
    unused c past l =
        let k = all-at room_limit (λ c. if ltb c t.n then room_fine t.n c (room_at t c) else is_blank_room (room_at t c)) seen-all.0 c l in
        grind (arith, nat_tests)

    place-is : (q : Queued) → queued_fine s.standings.n (rooms_of s.standings.rooms) q ≡ queued_fine t.n (room_at t) q
    place-is q = rw same-n (queued-same t.n (rooms_of s.standings.rooms) (room_at t) dues q)

    wire-is : (w : Wire) → wire_fine s.standings.n (rooms_of s.standings.rooms) w ≡ wire_fine t.n (room_at t) w
    wire-is w = rw same-n (wire-same t.n (rooms_of s.standings.rooms) (room_at t) dues tells w)

    -- the queue has been looked over
    module _ (long : length t.queue ≡ queue_limit) (queue : List Queued) (same : queue ≡ queue_of t) where
      places-are : list_all (queued_fine s.standings.n (rooms_of s.standings.rooms)) queue ≡ list_all (queued_fine t.n (room_at t)) (queue_of t)
      places-are = rw same (each-same (queued_fine s.standings.n (rooms_of s.standings.rooms)) (queued_fine t.n (room_at t)) place-is (queue_of t))

      pub queue-not : None ≡ named_in s.standings.n s.standings.rooms queue → None ≡ tally_of t
      unfolding named_in
      queue-not p = no-queue (queue-parts t sizes long ∙ simp (sym places-are ∙ there_is_not _ _ p))

      module _ (times : List ℕ) (p : Some times ≡ named_in s.standings.n s.standings.rooms queue) where
        named-all : (list_all (queued_fine t.n (room_at t)) (queue_of t) ≡ true) × (times ≡ map (places_naming (queue_of t)) (range_with_len 0 room_limit))
        unfolding named_in
        named-all = let w = there-is _ _ _ p in (sym places-are ∙ w.0, rw same at w.1)

        -- no message yet
        pub times-first : Counted times (names_by t 0)
        unfolding names_by
        times-first =
            let k = counted-so (places_naming (queue_of t)) times named-all.1 in
            record { long = k.long; at = λ c l. omega (arith, k.at c l, total-none (λ w. one (in_message c w)) (messages_of t)) }

        pub tokens-first : s.tokens ≡ tokens_by t 0
        unfolding tokens_by
        tokens-first =
            rw seen-all.1
            (omega (arith, count_past room_limit t.n (λ c. (room_at t c).token) (few-rooms t sizes) unused, total-none (λ w. one (with_token w)) (messages_of t)))

        -- all messages, and what is not in use
        pub tallied : length t.wires ≡ wire_limit → (i : ℕ) → length (messages_of t) ≤ i
            → list_all (wire_fine t.n (room_at t)) (take i (messages_of t)) ≡ true
            → (after : List ℕ) → Counted after (names_by t i) → (held : ℕ) → held ≡ tokens_by t i
            → (b : Bool) → b ≡ (list_all is_blank_queued (drop t.queued t.queue) && list_all is_blank_wire (drop t.count t.wires))
            → then_some b (record { standings = s.standings; times = after; tokens = held }) ≡ tally_of t
        unfolding tally_of names_by names tokens_by tokens
        tallied wires i far a after k held h b e =
            let end = take_all i (messages_of t) far in
            let ends : Counted after (names (queue_of t) (messages_of t)) =
            record { long = k.long; at = λ c l. k.at c l ∙ ap (λ m. places_naming (queue_of t) c + count (in_message c) m) end } in
            then-is b _ ∙ rw (
              e,
              sizes,
              seen-all.0,
              queue-parts t sizes long,
              wire-parts t sizes wires,
              named-all.0,
              rw end at a,
              ap (λ s. s.standings) seen-all.1,
              counted-is (names (queue_of t) (messages_of t)) after ends,
              h ∙ ap (λ m. count_below t.n (λ c. (room_at t c).token) + count with_token m) end,
            )

-- one turn of the loop over the messages: the message at i names and carries m
pub record Turn (t : Table) (i : ℕ) (m : Carried) : Type 0 where
  pub fine : list_all (wire_fine t.n (room_at t)) (take i (messages_of t)) ≡ true → list_all (wire_fine t.n (room_at t)) (take (i + 1) (messages_of t)) ≡ true
  pub low : (o : ℕ) → m.room ≡ Some o → o < room_limit
  pub names : (c : ℕ) → names_by t (i + 1) c ≡ names_by t i c + one (names_room m.room c)
  pub tokens : tokens_by t (i + 1) ≡ tokens_by t i + m.tokens
  -- so many names and tokens can be counted
  pub few-names : (c : ℕ) → names_by t i c ≤ queue_limit + wire_limit
  pub few-tokens : tokens_by t (i + 1) ≤ room_limit + wire_limit

module _ (t : Table) (sizes : sizes_fit t.n t.queued t.count ≡ true) (i : ℕ) (here : i < length (messages_of t)) where
  pub turn : wire_fine t.n (room_at t) (get_or (messages_of t) i no_wire) ≡ true → (m : Carried)
      → m ≡ carried_by (get_or (messages_of t) i no_wire).to (get_or (messages_of t) i no_wire).message → Turn t i m
  unfolding names_by tokens_by wire_fine
  turn fine m p =
      let w = get_or (messages_of t) i no_wire in
      let to-low : w.to < t.n = grind (arith, nat_tests) in
      let proper : message_fine t.n w.message ≡ true = grind (arith, nat_tests) in
      let next = total-more (λ w. one (with_token w)) (messages_of t) i no_wire here in
      rw p
      (record {
        fine = λ a. rw (list_all_more (wire_fine t.n (room_at t)) (messages_of t) i no_wire here, a, fine) refl;
        low = λ o e. omega (arith, few-rooms t sizes, named-low t.n w.to w.message to-low proper o e);
        names = λ c. omega (arith, total-more (λ w. one (in_message c w)) (messages_of t) i no_wire here, ap one (named-is c w.to w.message));
        tokens = omega (arith, next, tokens-are w.to w.message);
        few-names = λ c. omega (
          arith,
          count-le (λ (q : Queued). eqb q.room c) (queue_of t),
          length-take t.queued t.queue,
          few-queued t sizes,
          count-le (in_message c) (take i (messages_of t)),
          length-take i (messages_of t),
          length-take t.count t.wires,
          few-wires t sizes,
        );
        few-tokens = omega (
          arith,
          count-below-le t.n (λ c. (room_at t c).token),
          few-rooms t sizes,
          count-le with_token (take (i + 1) (messages_of t)),
          length-take (i + 1) (messages_of t),
          length-take t.count t.wires,
          few-wires t sizes,
        );
      })

-- a message, as it has been tested
module _ (t : Table) (sizes : sizes_fit t.n t.queued t.count ≡ true) (s : Seen) (e : Some s ≡ seen_in t.n t.rooms)
    (messages : List Wire) (same : messages ≡ messages_of t) (i : ℕ) (here : i < length messages) (b : Bool) (w : b ≡ wire_fine s.standings.n (rooms_of s.standings.rooms) (get_or messages i no_wire)) where
  tested : b ≡ wire_fine t.n (room_at t) (get_or messages i no_wire)
  tested = w ∙ wire-is t sizes s e (get_or messages i no_wire)

  pub message-not : length t.wires ≡ wire_limit → b ≡ false → None ≡ tally_of t
  message-not long h =
      let found = list_all_at (wire_fine t.n (room_at t)) (messages_of t) i no_wire (rw same at here) (rw same at (sym tested ∙ h)) in
      no-wires t (wire-parts t sizes long ∙ simp found)

  pub message-so : b ≡ true → (m : Carried) → m ≡ carried_by (get_or messages i no_wire).to (get_or messages i no_wire).message → Turn t i m
  message-so h m p = turn t sizes i (rw same at here) (rw same at (sym tested ∙ h)) m (rw same at p)

-- the last of the test
module _ (t : Table) where
  well-none : None ≡ tally_of t → false ≡ well_formed t
  unfolding tally_of well_formed
  well-none e = simp (there_is_not _ _ e)

  well-some : (y : Tally) → Some y ≡ tally_of t → (eqb y.tokens 1 && times_fine y.standings.n y.standings.rooms y.times) ≡ well_formed t
  unfolding tally_of well_formed times_fine names_fine standing
  well-some y e =
      let w = there-is _ _ _ e in
      let sizes : sizes_fit t.n t.queued t.count ≡ true = let parts = w.0 in grind (arith, nat_tests) in
      let named = map (names (queue_of t) (messages_of t)) (range_with_len 0 room_limit) in
      let told = map (λ c. standing (room_at t c)) (range_with_len 0 room_limit) in
      rw (w.1, w.0)
      (ap (λ b. eqb (tokens t.n (room_at t) (messages_of t)) 1 && b)
      (all_same
      t.n
      (λ c. eqb (get_or named c 0) (one (ltb 0 (standing_at told c).due)))
      (λ c. eqb (names (queue_of t) (messages_of t) c) (one (ltb 0 (due (room_at t c)))))
      (λ c l. rw (
        get_or-map-range_with_len (names (queue_of t) (messages_of t)) 0 room_limit c c 0 (omega (arith, few-rooms t sizes)) (omega arith),
        get_or-map-range_with_len (λ c. standing (room_at t c)) 0 room_limit c c no_standing (omega (arith, few-rooms t sizes)) (omega arith),
      ))))

  pub well : (o : Option Tally) → o ≡ tally_of t → (r : Bool) (Q : Tally → Type 0) → MatchOption o (r ≡ false) Q
      → ((y : Tally) → Q y → r ≡ (eqb y.tokens 1 && times_fine y.standings.n y.standings.rooms y.times)) → r ≡ well_formed t
  well None e r Q h k = h ∙ well-none e
  well (Some y) e r Q h k = k y h ∙ well-some y e
