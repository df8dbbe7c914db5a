use Rattle.std.proofs.Common.{◌≡◌, length}
use Rattle.block_scan.specs.Passages.{passage}
use Rattle.block_scan.proofs.passages.passage_of.Given as goal

abbrev pub invariant-loop-rest : goal.invariant-loop-rest
invariant-loop-rest l = passage l.seen l.rest ≡ passage l.fn.seen l.fn.frames

abbrev pub decreases-loop-rest : goal.decreases-loop-rest
decreases-loop-rest l = length l.rest
