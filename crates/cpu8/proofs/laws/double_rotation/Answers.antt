use Rattle.cpu8.proofs.TurnLemmas.{double_left, double_right}
use Rattle.cpu8.proofs.laws.double_rotation.Goals as goal

pub returns : goal.returns
returns c = record { left = double_left; right = double_right }
