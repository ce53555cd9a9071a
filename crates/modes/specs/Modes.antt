-- Which modes agree, which is stronger, and which can lend which, in document 01's words.
use Rattle.std.specs.Prelude.{ℕ, Bool, true, false, not, ◌&&◌, ◌||◌, List, [], ◌∷◌, get_or, ltb, leb, eqb}
use Rattle.modes.specs.Codes.{IR, R, U, IW, W, codes}

-- The table of conflicts, a row and a column for each code from none to W: true where there is no conflict. None agrees with all.
abbrev pub rows : List (List Bool)
rows =
    (true ∷ true ∷ true ∷ true ∷ true ∷ true ∷ [])
    ∷ (true ∷ true ∷ true ∷ true ∷ true ∷ false ∷ [])
    ∷ (true ∷ true ∷ true ∷ true ∷ false ∷ false ∷ [])
    ∷ (true ∷ true ∷ true ∷ false ∷ false ∷ false ∷ [])
    ∷ (true ∷ true ∷ false ∷ false ∷ true ∷ false ∷ [])
    ∷ (true ∷ false ∷ false ∷ false ∷ false ∷ false ∷ [])
    ∷ []

-- Two modes agree where the table has no conflict. A code past W agrees with nothing.
unfoldable pub agrees : ℕ → ℕ → Bool
agrees a b = ltb a codes && ltb b codes && get_or (get_or rows a []) b false

-- "Stronger" means the larger code.
unfoldable pub is_stronger : ℕ → ℕ → Bool
is_stronger a b = ltb b a

-- A mode a can lend m (m from 1 to 5) when a and m agree and m is not stronger than a.
unfoldable pub can_lend : ℕ → ℕ → Bool
can_lend a m = leb IR m && leb m W && agrees a m && not (is_stronger m a)

-- IR lends IR; R lends IR, R; U lends IR, R; IW lends IR, IW; the others lend nothing.
abbrev pub loans : List (ℕ × ℕ)
loans = (IR, IR) ∷ (R, IR) ∷ (R, R) ∷ (U, IR) ∷ (U, R) ∷ (IW, IR) ∷ (IW, IW) ∷ []

-- whether a list of lenders and what they lend has the pair of a and m
unfoldable pub is_listed : ℕ → ℕ → List (ℕ × ℕ) → Bool
is_listed a m [] = false
is_listed a m (loan ∷ others) = eqb a loan.0 && eqb m loan.1 || is_listed a m others

-- what document 01 lists: a lends m
unfoldable pub lend_list : ℕ → ℕ → Bool
lend_list a m = is_listed a m loans
