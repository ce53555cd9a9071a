use Rattle.std.proofs.Common.{arith}
use Rattle.step.proofs.Splice.{take-one, take-none}
use Rattle.step.proofs.write.take_out.Goals as goal

pub returns-in_default : goal.returns-in_default
returns-in_default c = take-none c.args.wires.now c.args.count c.args.taken (omega (arith, c.told-wires, c.requires.fits)) c.in_default.is

pub returns : goal.returns
returns c = take-one c.args.wires.now c.args.count c.args.taken (omega (arith, c.told-wires, c.requires.fits)) _ c.in-Some.is c.requires.there _ c.copy_within.ensures.after
