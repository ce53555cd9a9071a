-- What is kept of a line: as much of a piece more as there is room for.
use Rattle.std.specs.Prelude.{min}
use Rattle.std.proofs.Common.{◌≡◌, ℕ, ◌+◌, List, ◌++◌, length, take, sym, ◌∙◌, ap, arith}
use Rattle.std.proofs.lemmas.Grind.{common_steps}
use Rattle.std.proofs.Math.Seq.{take-append-add}
use Rattle.punkurel.specs.Kept.{kept_limit}

-- a piece is taken up to its end or as far as there is room
within : (piece : List ℕ) (room : ℕ) → take (min (length piece) room) piece ≡ take room piece
within piece room = grind (arith, common_steps)

pub kept : (items piece : List ℕ) (room n : ℕ) → room + length items ≡ kept_limit → n ≡ min (length piece) room
    → items ++ take n piece ≡ take kept_limit (items ++ piece)
kept items piece room n all e =
    let whole : length items + room ≡ kept_limit = omega (arith, all) in
    ap (λ (k : ℕ). items ++ take k piece) e ∙ ap (λ (l : List ℕ). items ++ l) (within piece room)
    ∙ sym (take-append-add items piece room) ∙ ap (λ (k : ℕ). take k (items ++ piece)) whole
