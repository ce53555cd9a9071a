-- The tables that a session makes: of no rooms, as before the first accepted `n`, or well formed, and so that steps keep them well formed.
use Rattle.std.specs.Prelude.{◌≡◌}
use Rattle.table.specs.declared.Table.{Table}
use Rattle.kept.specs.After.{Lawful}

pub record Known (t : Table) : Type 0 where
  pub lawful : (t.n ≡ 0 → ⊥) → Lawful t
