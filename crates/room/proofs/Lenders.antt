-- A lender: who it is, or that there is none.
use Rattle.std.specs.Prelude.{◌≡◌, refl, ◌≢◌, ◌⊎◌, ℕ, ◌≤◌, ◌<◌, true, false, Option, Some, None, is_none, unwrap_or, eqb}
use Rattle.std.proofs.Common.{◌∙◌, sym, ap, inl, inr, ⊎_elim, eqb-true, eq-eqb, ne_eqb, arith}
use Rattle.std.proofs.lemmas.Option.{none-some, same_Some}
use Rattle.base.specs.Tests.{clash}
use Rattle.base.specs.Choice.{by-test, split}
use Rattle.room.specs.declared.Room.{Room}
use Rattle.room.specs.Limits.{room_limit, nobody}
use Rattle.room.specs.Record.{is_lender, lender_of, lender_in}

pub is-none : (o : Option ℕ) → is_none o ≡ true → o ≡ None
is-none None e = refl
is-none (Some l) e = clash e refl

pub is-some : (o : Option ℕ) → is_none o ≡ false → o ≢ None
is-some o e z = clash (ap is_none z) e

pub none-is : (o : Option ℕ) → o ≡ None → is_none o ≡ true
none-is o e = ap is_none e

pub some-is : (o : Option ℕ) → o ≢ None → is_none o ≡ false
some-is None e = absurd (e refl)
some-is (Some l) e = refl

pub lender-is : (o : Option ℕ) (p : ℕ) → is_lender o p ≡ true → o ≡ Some p
unfolding is_lender
lender-is None p e = clash e refl
lender-is (Some l) p e = ap Some (eqb-true l p e)

pub is-lender : (o : Option ℕ) (p : ℕ) → o ≡ Some p → is_lender o p ≡ true
unfolding is_lender
is-lender o p e = rw e (eq-eqb p p refl)

pub lender-not : (o : Option ℕ) (p : ℕ) → is_lender o p ≡ false → o ≢ Some p
lender-not o p e z = clash (is-lender o p z) e

pub not-lender : (o : Option ℕ) (p : ℕ) → o ≢ Some p → is_lender o p ≡ false
unfolding is_lender
not-lender None p e = refl
not-lender (Some l) p e = ne_eqb l p (λ z. e (ap Some z))

pub lender? : (o : Option ℕ) (p : ℕ) → (o ≡ Some p) ⊎ (o ≢ Some p)
lender? o p = split (is_lender o p) (λ e. inl (lender-is o p e)) (λ e. inr (lender-not o p e))

-- nobody is no room
pub nobody-lends : {o : Option ℕ} {p : ℕ} → o ≡ None → o ≢ Some p
nobody-lends {o} {p} e z = none-some p (sym e ∙ z)

-- a lender has its number
pub lends : (r : Room) → r.lender ≢ None → r.lender ≡ Some (lender_of r)
lends r e = go r.lender e
  where
    go : (o : Option ℕ) → o ≢ None → o ≡ Some (unwrap_or o nobody)
    go None e = absurd (e refl)
    go (Some l) e = refl

-- who has a number that a room can have is there
pub lends-low : (r : Room) (n : ℕ) → lender_of r < n → n ≤ room_limit → r.lender ≡ Some (lender_of r)
lends-low r n h small = lends r (λ e. let z : lender_of r ≡ nobody = ap (λ (o : Option ℕ). unwrap_or o nobody) e in omega (arith, z))

pub lends-other : (r : Room) (c : ℕ) → r.lender ≢ None → r.lender ≢ Some c → lender_of r ≢ c
lends-other r c e d z = d (lends r e ∙ ap Some z)

-- a number names itself, or nobody
pub lender-either : (a : ℕ) → (lender_in a ≡ None) ⊎ (lender_in a ≡ Some a)
unfolding lender_in
lender-either a = by-test (λ (o : Option ℕ). (o ≡ None) ⊎ (o ≡ Some a)) (eqb a nobody) None (Some a) (λ e. inl refl) (λ e. inr refl)

pub lender-named : (a p : ℕ) → lender_in a ≡ Some p → p ≡ a
lender-named a p e = ⊎_elim (λ z. absurd (none-some p (sym z ∙ e))) (λ z. same_Some p a (sym e ∙ z)) (lender-either a)

-- a number that a room can have names that room
pub lender-low : (a : ℕ) → a < room_limit → lender_in a ≡ Some a
unfolding lender_in
lender-low a low = rw (ne_eqb a nobody (λ z. omega (arith, z))) refl

-- and so does each number of the rooms of a table
pub lender-within : (a n : ℕ) → a < n → n ≤ room_limit → lender_in a ≡ Some a
lender-within a n low small = lender-low a (omega arith)
