-- The first space of a text, as the library's search gives it: what stands before it and behind it.
use Rattle.std.proofs.Common.{◌≡◌, ℕ, suc, ◌+◌, ◌-◌, ◌≤◌, Bool, eqb, ltb, List, [], ◌∷◌, Option, None, Some, length, take, drop, length-drop, ap, ◌∙◌, refl, arith, add-one, one-add}
use Rattle.std.specs.List.{position, position_or_len}
use Rattle.std.proofs.Math.Seq.{take_all}
use Rattle.std.proofs.lemmas.Option.{cond_some}
use borrow.Author.Tests.{ltb-false}
use Rattle.base.specs.Choice.{split}
use Rattle.reading.specs.Lines.{before, behind, ask_command, deliver_command}

abbrev pub is_space : ℕ → Bool
is_space b = eqb b 32

before-first : (xs : List ℕ) → take (position_or_len is_space xs) xs ≡ before xs
unfolding before
before-first [] = refl
before-first (b ∷ bs) = split (eqb b 32) (λ p. rw p) (λ p. rw (p, one-add) (ap (λ (ys : List ℕ). b ∷ ys) (before-first bs)))

behind-first : (xs : List ℕ) → drop (suc (position_or_len is_space xs)) xs ≡ behind xs
unfolding behind
behind-first [] = refl
behind-first (b ∷ bs) = split (eqb b 32) (λ p. rw p) (λ p. rw (p, one-add) (behind-first bs))

behind-past : (xs : List ℕ) → length xs ≤ position_or_len is_space xs → behind xs ≡ []
unfolding behind
behind-past [] h = refl
behind-past (b ∷ bs) h = split (eqb b 32) (λ p. absurd (omega (arith, rw p at h))) (λ p. rw p (behind-past bs (omega (arith, rw p at h))))

-- with no space there is nothing behind it
pub none-behind : (xs : List ℕ) → position is_space xs ≡ None → behind xs ≡ []
none-behind xs e =
    split (ltb (position_or_len is_space xs) (length xs)) (λ p. absurd (let f = rw p at e in cc)) (λ p. behind-past xs (ltb-false _ _ p))

module _ (xs : List ℕ) (at : ℕ) (e : position is_space xs ≡ Some at) where
  place : position_or_len is_space xs ≡ at
  place = (cond_some (ltb (position_or_len is_space xs) (length xs)) _ _ e).1

  pub front : take at xs ≡ before xs
  front = rw (← place) (before-first xs)

  -- as the code cuts it off
  pub back : take (length xs - (at + 1)) (drop (at + 1) xs) ≡ behind xs
  back = take_all (length xs - (at + 1)) (drop (at + 1) xs) (omega (arith, length-drop (at + 1) xs)) ∙ rw (add-one, ← place) (behind-first xs)

-- no mode, no ask; no second room, no delivery
pub no_ask : (x m : Option ℕ) → m ≡ None → ask_command x m ≡ None
unfolding ask_command
no_ask None m e = refl
no_ask (Some x) m e = rw e

pub no_delivery : (x y : Option ℕ) → y ≡ None → deliver_command x y ≡ None
unfolding deliver_command
no_delivery None y e = refl
no_delivery (Some x) y e = rw e
