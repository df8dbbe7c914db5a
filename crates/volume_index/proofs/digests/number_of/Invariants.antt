use Rattle.std.proofs.Common.{◌≡◌, length}
use Rattle.volume_index.specs.Digests.{number_after}
use Rattle.volume_index.proofs.digests.number_of.Given as goal

abbrev pub invariant-loop-rest : goal.invariant-loop-rest
invariant-loop-rest l = number_after l.number l.rest ≡ number_after 0 l.fn.digits

abbrev pub decreases-loop-rest : goal.decreases-loop-rest
decreases-loop-rest l = length l.rest
