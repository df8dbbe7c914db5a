use Rattle.std.proofs.Common.{◌≡◌, length}
use Rattle.volume_salvage.specs.Salvaging.{are_zeros}
use Rattle.volume_salvage.proofs.lines.are_zeros.Given as goal

abbrev pub invariant-loop-rest : goal.invariant-loop-rest
invariant-loop-rest l = are_zeros l.rest ≡ are_zeros l.words

abbrev pub decreases-loop-rest : goal.decreases-loop-rest
decreases-loop-rest l = length l.rest
