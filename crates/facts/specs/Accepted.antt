-- What an accepted event has: none of the refusals applies.
use Rattle.std.specs.Prelude.{◌≡◌, refl, ◌≢◌, Bool, true, false, ◌&&◌, ◌||◌, List, ◌∷◌, ℕ, ◌≤◌, ◌<◌, ltb, leb, eqb}
use Rattle.std.proofs.Common.{true≢false, arith, ltb-true, leb-true, leb-false, eqb-true, ne_eqb}
use Rattle.std.proofs.lemmas.Bool.{false≢true, eqb-false, not-false}
use Rattle.base.specs.Choice.{by-test}
use Rattle.base.specs.Tests.{and_left, and_right, clash}
use Rattle.base.specs.Below.{all-at}
use Rattle.modes.specs.Codes.{IR, U, W}
use Rattle.std.specs.Prelude.{Option, None}
use Rattle.table.specs.declared.Table.{Table}
use Rattle.table.specs.Tables.{Answer}
use Rattle.table.specs.Numbers.{DONE}
use Rattle.table.specs.Tables.{room_at, answer}
use Rattle.table.specs.declared.Found.{Found}
use Rattle.table.specs.Oldest.{oldest_of}
use Rattle.table.specs.Formed.{is_mode, well_formed}
use Rattle.rules.specs.declared.Event.{Event}
use Rattle.rules.specs.Limits.{busy_limit, worn_limit}
use Rattle.rules.specs.Events.{DELIVER, is_ask, is_upgrade, is_hand_back, is_deliver}
use Rattle.rules.specs.Step.{made, step_of}
use Rattle.rules.specs.Refusals.{Row, row, first, refusal, refusal_as, is_found, any_worn}

-- the first number is 0 only where the row does not apply
first-none : (k : ℕ) (b : Bool) (rows : List Row) → first (row k b ∷ rows) ≡ 0 → k ≢ 0 → (b ≡ false) × (first rows ≡ 0)
unfolding first
first-none k true rows h ne = absurd (ne h)
first-none k false rows h ne = (refl, h)

or-false-left : (p q : Bool) → (p || q) ≡ false → p ≡ false
or-false-left true q h = h
or-false-left false q h = refl

or-false-right : (p q : Bool) → (p || q) ≡ false → q ≡ false
or-false-right true q h = absurd (true≢false h)
or-false-right false q h = h

nothing-found : (r : Option Found) → r ≡ None → is_found r ≡ true → ⊥
unfolding is_found
nothing-found r e h = absurd (false≢true (rw e at h))

all-unworn : (t : Table) → any_worn t ≡ false → (c : ℕ) → c < t.n → (room_at t c).counter < worn_limit
unfolding any_worn
all-unworn t h c l = ltb-true _ _ (all-at t.n (λ c. ltb (room_at t c).counter worn_limit) (not-false _ h) c l)

-- what each refusal that does not apply says, in their order, where it is told whether the table is well formed
pub record AcceptedAs (told : Bool) (t : Table) (e : Event) : Type 0 where
  -- 1 TABLE
  pub formed : told ≡ true
  -- 2 EVENT
  pub kinds : is_ask e ≡ false → is_upgrade e ≡ false → is_hand_back e ≡ false → is_deliver e ≡ true
  -- 3 ROOM
  pub low : e.room < t.n
  pub near : is_deliver e ≡ true → e.other < t.n
  -- 4 MODE
  pub some : is_ask e ≡ true → IR ≤ e.mode
  pub code : is_ask e ≡ true → e.mode ≤ W
  -- 5 WAITING
  pub idle : is_deliver e ≡ false → (room_at t e.room).wanted ≡ 0
  -- 6 HELD
  pub free : is_ask e ≡ true → (room_at t e.room).held ≡ 0
  -- 7 NOT HELD
  pub had : is_hand_back e ≡ true → (room_at t e.room).held ≢ 0
  pub holds : is_upgrade e ≡ true → (room_at t e.room).held ≡ U
  -- 8 EMPTY
  pub found : is_deliver e ≡ true → oldest_of t e.room e.other ≢ None
  -- 9 BUSY
  pub few : is_ask e ≡ true → t.count < busy_limit
  -- 10 WORN, by a counter
  pub unworn : is_ask e ≡ true → (c : ℕ) → c < t.n → (room_at t c).counter < worn_limit

-- where it is told whether the table is well formed
pub accepted-as : (told : Bool) (t : Table) (e : Event) → refusal_as told t e ≡ 0 → AcceptedAs told t e
unfolding refusal_as
accepted-as told t e h =
    let one = first-none 1 _ _ h (λ z. omega arith) in
    let two = first-none 2 _ _ one.1 (λ z. omega arith) in
    let three = first-none 3 _ _ two.1 (λ z. omega arith) in
    let four = first-none 4 _ _ three.1 (λ z. omega arith) in
    let five = first-none 5 _ _ four.1 (λ z. omega arith) in
    let six = first-none 6 _ _ five.1 (λ z. omega arith) in
    let seven = first-none 7 _ _ six.1 (λ z. omega arith) in
    let eight = first-none 8 _ _ seven.1 (λ z. omega arith) in
    let nine = first-none 9 _ _ eight.1 (λ z. omega arith) in
    let ten = first-none 10 _ _ nine.1 (λ z. omega arith) in
    record {
      formed = not-false told one.0;
      kinds = λ a u b. rw (a, u, b) at (not-false (is_ask e || is_upgrade e || is_hand_back e || is_deliver e) two.0);
      near = λ d. leb-false _ _ (rw d at (or-false-right (leb t.n e.room) _ three.0));
      found = λ d n. nothing-found _ n (not-false _ (rw d at eight.0));
      low = leb-false _ _ (or-false-left (leb t.n e.room) _ three.0);
      some = λ a. leb-true _ _ (and_left _ _ (not-false (is_mode e.mode) (rw a at four.0)));
      code = λ a. leb-true _ _ (and_right (leb IR e.mode) _ (not-false (is_mode e.mode) (rw a at four.0)));
      idle = λ a. eqb-true _ _ (not-false _ (rw a at five.0));
      free = λ a. eqb-true _ _ (not-false _ (rw a at six.0));
      holds = λ a. eqb-true _ _ (not-false _ (rw a at (or-false-right (is_hand_back e && eqb (room_at t e.room).held 0) _ seven.0)));
      had = λ a. eqb-false _ _ (rw a at (or-false-left (is_hand_back e && eqb (room_at t e.room).held 0) _ seven.0));
      few = λ a. leb-false _ _ (rw a at nine.0);
      unworn = λ a. all-unworn t (rw a at ten.0);
    }

abbrev pub Accepted : Table → Event → Type 0
Accepted t e = AcceptedAs (well_formed t) t e

pub accepted : (t : Table) (e : Event) → refusal t e ≡ 0 → Accepted t e
unfolding refusal
accepted t e h = accepted-as (well_formed t) t e h

-- an event of another kind than DELIVER is of a room that does not wait
pub kind-idle : (t : Table) (e : Event) → Accepted t e → (k : ℕ) → e.kind ≡ k → k < DELIVER → (room_at t e.room).wanted ≡ 0
kind-idle t e a k is other = a.idle (ne_eqb e.kind DELIVER (λ z. omega arith))

-- an event that was accepted is one that no refusal applies to
pub unrefused : (t : Table) (e : Event) → (step_of t e).«number» ≡ DONE → refusal t e ≡ DONE
unfolding step_of
unrefused t e =
    by-test (λ (r : Answer). r.«number» ≡ DONE → refusal t e ≡ DONE) (eqb (refusal t e) DONE) (made t e) (answer (refusal t e) t)
    (λ b h. eqb-true _ _ b) (λ b h. h)

-- on a table that is not well formed none is accepted
pub ill-formed-refused : (t : Table) (e : Event) → well_formed t ≡ false → (step_of t e).«number» ≢ DONE
ill-formed-refused t e h done = clash (accepted t e (unrefused t e done)).formed h
