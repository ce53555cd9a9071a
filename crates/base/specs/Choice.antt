-- A choice by a test, as every definition writes it, and what a reader of one may use.
use Rattle.std.specs.Prelude.{◌≡◌, refl, Bool, true, false, cond}
use Rattle.std.proofs.Common.{sym, ◌∙◌}

-- what holds of both answers, each under its test, holds of the choice: `if b then x else y` is `cond b x y`
pub by-test {ℓ κ} : {A : Type ℓ} (P : A → Type κ) (b : Bool) (x y : A) → (b ≡ true → P x) → (b ≡ false → P y) → P (cond b x y)
by-test P true x y f g = f refl
by-test P false x y f g = g refl

-- a test is passed or failed
pub split {ℓ} : {C : Type ℓ} (b : Bool) → (b ≡ true → C) → (b ≡ false → C) → C
split true f g = f refl
split false f g = g refl

-- A contract that says `r ≡ v` decides: two results that it allows are equal.
pub decided {ℓ} : {A : Type ℓ} {r s v : A} → r ≡ v → s ≡ v → r ≡ s
decided p q = p ∙ sym q
