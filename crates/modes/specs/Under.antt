-- What the argument about loans says of modes: one is under another, and small modes.
use Rattle.std.specs.Prelude.{ℕ, Bool, ◌||◌, eqb}
use Rattle.base.specs.Tests.{◌implies◌}
use Rattle.base.specs.Below.{all_below}
use Rattle.modes.specs.Codes.{none, IR, R, IW, codes}
use Rattle.modes.specs.Modes.{agrees}

-- x is under o: whatever agrees with o agrees with x.
unfoldable pub under : ℕ → ℕ → Bool
under x o = all_below codes (λ m. agrees o m implies agrees x m)

-- A mode is small if it is none, IR, R or IW.
unfoldable pub small : ℕ → Bool
small m = eqb m none || eqb m IR || eqb m R || eqb m IW
