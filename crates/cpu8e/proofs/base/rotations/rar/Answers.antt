use Rattle.cpu8.proofs.RotationLemmas.{thirteen_bits-right}
use Rattle.cpu8e.proofs.base.rotations.rar.Goals as goal

pub returns-clause-bits : goal.returns-clause-bits
returns-clause-bits c = thirteen_bits-right c.args.number c.requires
