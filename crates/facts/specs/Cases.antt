-- The rules for a room's record that go by a test: what holds of both outcomes holds of what comes out.
use Rattle.std.specs.Prelude.{◌≡◌, refl, ◌≢◌, ◌⊎◌, true, false, ◌||◌, ◌&&◌, List, [], ◌∷◌, ℕ, ◌≤◌, ◌<◌, ltb, eqb}
use Rattle.std.proofs.Common.{inl, inr, ⊎_elim, ltb-true, ltb-false, eqb-true}
use Rattle.std.proofs.lemmas.Bool.{eqb-false}
use Rattle.base.specs.Choice.{by-test}
use Rattle.base.specs.Tests.{or-use, or_left, clash}
use Rattle.std.specs.Prelude.{is_none}
use Rattle.modes.specs.Modes.{is_stronger}
use Rattle.std.specs.Prelude.{Option, Some, None}
use Rattle.room.specs.Rules.{reduce_to}
use Rattle.room.specs.declared.Room.{Room}
use Rattle.room.specs.declared.Reduce.{Reduce}
use Rattle.room.specs.declared.Changed.{Changed}
use Rattle.room.specs.Limits.{room_limit}
use Rattle.room.specs.Record.{entry_of, entry_at, with_debt, set_entry, lender_of, lender_in, is_lender}
use Rattle.room.specs.Owned.{owned}
use Rattle.room.proofs.Lenders.{is-none, none-is, lender-is, lender-low}
use Rattle.room.specs.Rules.{next_link, left, remaining, passed_to, credited, settled, leaving, lifted, reduced}
use Rattle.table.specs.declared.Wire.{Wire}
use Rattle.table.specs.declared.Message.TheVariants as msg
use Rattle.facts.specs.Wires.{wire, sent_by, leaving_sent}

-- to the old lender: nothing if there is none, or if it stays the lender, else a REDUCE
pub leaving-send : (r : Room) (a : ℕ) (P : Option Reduce → Type 0) → ((r.lender ≡ None) ⊎ (r.lender ≡ Some a) → P None)
    → (r.lender ≢ None → P (Some (reduce_to r 0))) → P (leaving r a)
unfolding leaving
leaving-send r a P p q =
    by-test P (is_none r.lender || is_lender r.lender a) None (Some (reduce_to r 0))
    (λ e. p (⊎_elim (λ h. inl (is-none _ h)) (λ h. inr (lender-is _ _ h)) (or-use (is_none r.lender) (is_lender r.lender a) e)))
    (λ e. q (λ h. clash (or_left (is_none r.lender) (is_lender r.lender a) (none-is r.lender h)) e))

-- the same of the messages that are sent
pub leaving-either : (me : ℕ) (r : Room) (a : ℕ) (P : List Wire → Type 0) → P []
    → (r.lender ≢ None → P (wire me (lender_of r) (msg.Reduce r.link 0) ∷ [])) → P (leaving_sent me r a)
unfolding leaving_sent
leaving-either me r a P p q = leaving-send r a (λ (s : Option Reduce). P (sent_by me s)) (λ e. p) q

-- a pass: something remains or not
pub passed-either : (r : Room) (y : ℕ) (P : Room → Type 0) → (remaining r y ≡ 0 → P (left r y))
    → (remaining r y ≢ 0 → P (with_debt (left r y) (lender_in y) (remaining r y) (next_link r.counter))) → P (passed_to r y)
unfolding passed_to
passed-either r y P p q =
    by-test P (eqb (remaining r y) 0) (left r y) (with_debt (left r y) (lender_in y) (remaining r y) (next_link r.counter))
    (λ e. p (eqb-true _ _ e)) (λ e. q (eqb-false _ _ e))

-- a pass to a number that a room can have: that room is the lender
pub passed-low : (r : Room) (y : ℕ) → y < room_limit → (P : Room → Type 0) → (remaining r y ≡ 0 → P (left r y))
    → (remaining r y ≢ 0 → P (with_debt (left r y) (Some y) (remaining r y) (next_link r.counter))) → P (passed_to r y)
passed-low r y low P p q = passed-either r y P p (λ e. rw (lender-low y low) (q e))

-- a settling: to none, or to a weaker mode
pub credited-either : (r : Room) (m : ℕ) (P : Room → Type 0) → (m ≡ 0 → P (with_debt r None m 0))
    → (m ≢ 0 → P (with_debt r r.lender m r.link)) → P (credited r m)
unfolding credited
credited-either r m P p q =
    by-test P (eqb m 0) (with_debt r None m 0) (with_debt r r.lender m r.link) (λ e. p (eqb-true _ _ e)) (λ e. q (eqb-false _ _ e))

-- what is owed then
pub credited-credit : (r : Room) (m : ℕ) → (credited r m).credit ≡ m
credited-credit r m = credited-either r m (λ (s : Room). s.credit ≡ m) (λ e. refl) (λ e. refl)

-- "if owned is weaker than credit": a REDUCE is due, or nothing is done
pub settled-either : (r : Room) (P : Changed → Type 0)
    → (is_stronger r.credit (owned r) ≡ true
    → P (record { room = credited r (owned r); send = Some (reduce_to r (owned r)) }))
    → (is_stronger r.credit (owned r) ≡ false → P (record { room = r; send = None })) → P (settled r)
unfolding settled
settled-either r P =
    by-test P (is_stronger r.credit (owned r))
    (record { room = credited r (owned r); send = Some (reduce_to r (owned r)) }) (record { room = r; send = None })

-- a REDUCE: taken, or dropped
pub reduced-either : (r : Room) (a l m : ℕ) (P : Room → Type 0)
    → ((eqb (entry_at r a).link l && is_stronger (entry_at r a).mode m) ≡ true → P (set_entry r a (entry_of m l)))
    → ((eqb (entry_at r a).link l && is_stronger (entry_at r a).mode m) ≡ false → P r) → P (reduced r a l m)
unfolding reduced
reduced-either r a l m P =
    by-test P (eqb (entry_at r a).link l && is_stronger (entry_at r a).mode m) (set_entry r a (entry_of m l)) r

-- what is owed stays
pub reduced-credit : (r : Room) (a l m : ℕ) → (reduced r a l m).credit ≡ r.credit
reduced-credit r a l m = reduced-either r a l m (λ (s : Room). s.credit ≡ r.credit) (λ e. refl) (λ e. refl)

-- a counter that a TOKEN lifts: the larger of the two numbers
pub lifted-either : (k l : ℕ) (P : ℕ → Type 0) → (k < l → P l) → (l ≤ k → P k) → P (lifted k l)
unfolding lifted
lifted-either k l P p q = by-test P (ltb k l) l k (λ e. p (ltb-true k l e)) (λ e. q (ltb-false k l e))
