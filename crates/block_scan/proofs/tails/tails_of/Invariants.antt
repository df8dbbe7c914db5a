use Rattle.std.proofs.Common.{◌≡◌, length}
use Rattle.block_scan.specs.TailSteps.{tails_of}
use Rattle.block_scan.proofs.tails.tails_of.Given as goal

abbrev pub invariant-loop-rest : goal.invariant-loop-rest
invariant-loop-rest l = tails_of l.rest l.tails ≡ tails_of l.fn.frames l.fn.after

abbrev pub decreases-loop-rest : goal.decreases-loop-rest
decreases-loop-rest l = length l.rest
