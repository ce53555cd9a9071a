-- Tests joined by "and", "or" and "if .. then": what they say, and how to show one.
use Rattle.std.specs.Prelude.{◌≡◌, refl, ◌⊎◌, Bool, true, false, ◌&&◌, ◌||◌}
use Rattle.std.proofs.Common.{sym, ◌∙◌, inl, inr, true≢false}
use Rattle.std.specs.Bool.{beq}
use Rattle.std.proofs.lemmas.Bool.{false≢true}

-- `a implies b`
infixr 25 ◌implies◌
abbrev pub ◌implies◌ : Bool → Bool → Bool
true implies b = b
false implies b = true

pub and_left : (a b : Bool) → (a && b) ≡ true → a ≡ true
and_left true b h = refl
and_left false b h = h

pub and_right : (a b : Bool) → (a && b) ≡ true → b ≡ true
and_right true b h = h
and_right false b h = absurd (false≢true h)

pub and_both : (a b : Bool) → a ≡ true → b ≡ true → (a && b) ≡ true
and_both true b p q = q
and_both false b p q = absurd (false≢true p)

pub implies-use : (a b : Bool) → (a implies b) ≡ true → a ≡ true → b ≡ true
implies-use true b h p = h
implies-use false b h p = absurd (false≢true p)

pub implies-show : (a b : Bool) → (a ≡ true → b ≡ true) → (a implies b) ≡ true
implies-show true b h = h refl
implies-show false b h = refl

pub same-use : (a b : Bool) → beq a b ≡ true → a ≡ b
same-use true true h = refl
same-use true false h = absurd (false≢true h)
same-use false true h = absurd (false≢true h)
same-use false false h = refl

pub same-show : (a b : Bool) → a ≡ b → beq a b ≡ true
same-show true true h = refl
same-show true false h = absurd (true≢false h)
same-show false true h = absurd (false≢true h)
same-show false false h = refl

pub or-use : (a b : Bool) → (a || b) ≡ true → (a ≡ true) ⊎ (b ≡ true)
or-use true b h = inl refl
or-use false b h = inr h

pub or_left : (a b : Bool) → a ≡ true → (a || b) ≡ true
or_left true b h = refl
or_left false b h = absurd (false≢true h)

pub or_right : (a b : Bool) → b ≡ true → (a || b) ≡ true
or_right true b h = refl
or_right false b h = h

pub clash {ℓ} : {C : Type ℓ} {b : Bool} → b ≡ true → b ≡ false → C
clash p q = absurd (true≢false (sym p ∙ q))

-- two tests passed, as a row of "and" reads: a also b also c
infixl 20 ◌also◌
pub ◌also◌ : {a b : Bool} → a ≡ true → b ≡ true → (a && b) ≡ true
◌also◌ {a} {b} p q = and_both a b p q
