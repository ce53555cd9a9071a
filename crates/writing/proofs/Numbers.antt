-- The digits of a number as the library writes them, of which 999 is the largest that is shown.
use Rattle.std.proofs.Common.{◌≡◌, ℕ, ◌+◌, ◌/◌, ◌%◌, ◌<◌, ◌≤◌, min, ltb, [], ◌∷◌, ◌++◌, length, ◌∙◌, ap, arith}
use Rattle.std.specs.Fmt as fmt
use Rattle.std.proofs.lemmas.Fmt.{decimal_digit, decimal_step, length-decimal-le}
use borrow.Author.Tests.{ltb-true, ltb-false}
use Rattle.base.specs.Choice.{split}
use Rattle.writing.specs.Answers.{digit_text, decimal}
use Rattle.writing.specs.Words.{word_limit}

pub number_short : (k : ℕ) → length (fmt.decimal (min k 999)) ≤ word_limit
number_short k = length-decimal-le 3 (min k 999) (omega arith) (omega arith) (omega arith)

one : (k : ℕ) → k < 10 → fmt.decimal k ≡ digit_text k ∷ []
unfolding digit_text
one k h = let e : k ≡ k % 10 = omega arith in decimal_digit k h ∙ ap (λ (d : ℕ). (48 + d) ∷ []) e

-- one digit more
more : (k : ℕ) → 10 ≤ k → k < 1000 → fmt.decimal k ≡ fmt.decimal (k / 10) ++ digit_text k ∷ []
unfolding digit_text
more k l h = decimal_step k l (omega arith)

two : (k : ℕ) → 10 ≤ k → k < 100 → fmt.decimal k ≡ digit_text (k / 10) ∷ digit_text k ∷ []
two k l h = more k l (omega arith) ∙ rw (one (k / 10) (omega arith))

three : (k : ℕ) → 100 ≤ k → k < 1000 → fmt.decimal k ≡ digit_text (k / 100) ∷ digit_text (k / 10) ∷ digit_text k ∷ []
three k l h =
    let e : (k / 10) / 10 ≡ k / 100 = omega arith in
    more k (omega arith) h ∙ rw (two (k / 10) (omega arith) (omega arith), e)

pub number_text : (k : ℕ) → fmt.decimal (min k 999) ≡ decimal k
unfolding decimal digit_text
number_text k =
    split (ltb k 10) (λ p. let h = ltb-true k 10 p in let e : min k 999 ≡ k = omega arith in rw (p, e) (one k h))
    (λ p. split (ltb k 100) (λ q. let l = ltb-false k 10 p in let h = ltb-true k 100 q in let e : min k 999 ≡ k = omega arith in rw (p, q, e) (two k l h))
    (λ q. split (ltb k 1000) (λ r. let l = ltb-false k 100 q in let h = ltb-true k 1000 r in let e : min k 999 ≡ k = omega arith in rw (p, q, r, e) (three k l h))
    (λ r. let l = ltb-false k 1000 r in let e : min k 999 ≡ 999 = omega arith in rw (p, q, r, e) (three 999 (omega arith) (omega arith)))))
