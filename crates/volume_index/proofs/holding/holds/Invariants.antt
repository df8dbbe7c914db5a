use Rattle.std.proofs.Common.{◌≡◌, length}
use Rattle.volume_index.specs.Holding.{holds}
use Rattle.volume_index.proofs.holding.holds.Given as goal

abbrev pub invariant-loop-rest : goal.invariant-loop-rest
invariant-loop-rest l = holds l.fn.part l.rest ≡ holds l.fn.part l.fn.bytes

abbrev pub decreases-loop-rest : goal.decreases-loop-rest
decreases-loop-rest l = length l.rest
