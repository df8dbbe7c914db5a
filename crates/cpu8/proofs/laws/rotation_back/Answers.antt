use Rattle.cpu8.proofs.TurnLemmas.{back_left, back_right}
use Rattle.cpu8.proofs.laws.rotation_back.Goals as goal

pub returns : goal.returns
returns c = record { left = back_left; right = back_right }
