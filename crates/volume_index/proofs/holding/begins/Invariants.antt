use Rattle.std.proofs.Common.{◌≡◌, length}
use Rattle.volume_index.specs.Holding.{begins}
use Rattle.volume_index.proofs.holding.begins.Given as goal

abbrev pub invariant-loop-wanted : goal.invariant-loop-wanted
invariant-loop-wanted l = begins l.wanted l.rest ≡ begins l.fn.part l.fn.bytes

abbrev pub decreases-loop-wanted : goal.decreases-loop-wanted
decreases-loop-wanted l = length l.wanted
