-- An element taken out of an array of which so many places are in use: those behind it close up.
use Rattle.std.specs.List.{copy_within}
use Rattle.std.proofs.Common.{◌≡◌, ℕ, suc, ◌+◌, ◌-◌, ◌<◌, ◌≤◌, List, [], ◌∷◌, ◌++◌, length, get_or, set, take, drop, sym, ◌∙◌, ap, arith, add-one, length-take-le, drop-cons}
use Rattle.std.proofs.lemmas.List.{take-take}
use Rattle.std.proofs.lemmas.Slice.{between_is}
use Rattle.std.proofs.Math.Seq.{set_at}
use Rattle.base.specs.Lists.{remove, remove-split, length-remove}

-- an element is taken out of the first count: those behind it move up by one, and d is put in the last place
pub moved-up : {A : Type 0} (xs : List A) (count place : ℕ) (d : A) → place < count → count ≤ length xs → (ws : List A) → ws ≡ copy_within xs (place + 1) count place
    → set ws (count - 1) d ≡ remove place (take count xs) ++ (d ∷ drop count xs)
moved-up {A = A} xs count place d h low ws e =
    let last = count - 1 in
    let all : length (take count xs) ≡ count = length-take-le count xs low in
    let to : place + (count - (place + 1)) ≡ last = omega arith in
    let more : suc last ≡ count = omega arith in
    let before : take place xs ≡ take place (take count xs) = sym (take-take place count xs (omega arith)) in
    let moved : take (count - (place + 1)) (drop (place + 1) xs) ≡ drop (suc place) (take count xs)
    = between_is xs (place + 1) count ∙ ap (λ (n : ℕ). drop n (take count xs)) (add-one place) in
    let end : drop last xs ≡ get_or xs last d ∷ drop count xs = drop-cons xs last d (omega arith) ∙ ap (λ (n : ℕ). get_or xs last d ∷ drop n xs) more in
    let whole : ws ≡ remove place (take count xs) ++ (get_or xs last d ∷ drop count xs) = e
    ∙ (λ i. before i ++ moved i ++ drop (to i) xs) ∙ (λ i. sym (remove-split place (take count xs)) i ++ end i) in
    ap (λ (l : List A). set l last d) whole
    ∙ set_at (remove place (take count xs)) (get_or xs last d) (drop count xs) d last (omega (arith, all, length-remove (take count xs) place (omega (arith, all))))
