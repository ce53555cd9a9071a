use Rattle.std.proofs.Math.Logic.{∥∥₁_map}
use Rattle.punkurel.proofs.lines.Talk.turn.Goals as goal

-- the turn of a table that the session made gives such a table
pub invariant_of-self : goal.invariant_of-self
invariant_of-self g c = record { known = ∥∥₁_map c.make_room.new.self.known (λ known. (c.turn_known-turned.ensures.known known).1) }
