use Rattle.cpu8.proofs.RotationLemmas.{thirteen_bits-left}
use Rattle.cpu8e.proofs.base.rotations.ral.Goals as goal

pub returns-clause-bits : goal.returns-clause-bits
returns-clause-bits c = thirteen_bits-left c.args.number c.requires
