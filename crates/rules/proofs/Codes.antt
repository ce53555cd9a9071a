-- The kinds and their numbers: each is one of four, and what a number is read as is decided.
use Rattle.std.proofs.Common.{◌≡◌, ℕ, refl, sym, ap, ◌∙◌, arith, ◌≤◌, eqb, if◌then◌else◌, Result, Ok, Err}
use Rattle.table.specs.declared.refusal.Refusal.{Refusal}
use Rattle.rules.specs.declared.Kind.{Kind}
use Rattle.rules.specs.declared.Kind.TheVariants as kind
use Rattle.rules.specs.Events.{ASK, UPGRADE, HANDBACK, DELIVER, code_of, Decodes}

-- the kind with a number
kind_of : ℕ → Kind
kind_of k = if eqb k ASK then kind.Ask else (if eqb k UPGRADE then kind.Upgrade else (if eqb k HANDBACK then kind.HandBack else kind.Deliver))

back : (a : Kind) → kind_of (code_of a) ≡ a
unfolding kind_of
back kind.Ask = refl
back kind.Upgrade = refl
back kind.HandBack = refl
back kind.Deliver = refl

-- no kind has a number above the last
pub kind-low : (a : Kind) → code_of a ≤ DELIVER
kind-low kind.Ask = omega arith
kind-low kind.Upgrade = omega arith
kind-low kind.HandBack = omega arith
kind-low kind.Deliver = omega arith

pub decoded-once : (k : ℕ) (r s : Result Kind Refusal) → Decodes k r → Decodes k s → r ≡ s
decoded-once k (Ok a) (Ok b) p q = ap (λ (x : Kind). Ok x) (sym (back a) ∙ ap kind_of (p ∙ sym q) ∙ back b)
decoded-once k (Ok a) (Err b) p q = absurd (omega (arith, kind-low a, p, q.1))
decoded-once k (Err a) (Ok b) p q = absurd (omega (arith, kind-low b, q, p.1))
decoded-once k (Err a) (Err b) p q = ap (λ (x : Refusal). Err x) (p.0 ∙ sym q.0)
