use Rattle.std.proofs.Common.{arith}
use Rattle.std.proofs.lemmas.Grind.{common_steps}
use Rattle.std.proofs.lemmas.List.{drop-replicate}
use Rattle.base.specs.Arrays.{padded}
use Rattle.step.specs.Writes.{places_of}
use Rattle.step.proofs.write.places_of.Goals as goal

pub returns : goal.returns
unfolding padded places_of
returns c = grind (arith, common_steps, drop-replicate)
