-- "takes the oldest message from a to b"
use Rattle.std.specs.Prelude.{ℕ, suc, Bool, ◌&&◌, List, [], ◌∷◌, Option, Some, None, eqb, if◌then◌else◌}
use Rattle.table.specs.declared.Table.{Table}
use Rattle.table.specs.declared.Wire.{Wire}
use Rattle.table.specs.declared.Message.{Message}
use Rattle.table.specs.declared.Found.{Found}
use Rattle.table.specs.Tables.{messages_of}

-- whether a message goes from a to b
abbrev pub between : ℕ → ℕ → Wire → Bool
between a b w = eqb w.«from» a && eqb w.to b

abbrev pub found_at : ℕ → Message → Found
found_at i m = record { place = i; message = m }

-- the first message of a list that goes from a to b, and its place counted from i; or nothing
unfoldable pub oldest_in : ℕ → ℕ → ℕ → List Wire → Option Found
oldest_in a b i [] = None
oldest_in a b i (w ∷ ws) = if between a b w then Some (found_at i w.message) else oldest_in a b (suc i) ws

unfoldable pub oldest_of : Table → ℕ → ℕ → Option Found
oldest_of t a b = oldest_in a b 0 (messages_of t)
