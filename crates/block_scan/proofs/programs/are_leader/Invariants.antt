use Rattle.std.proofs.Common.{◌≡◌, length}
use Rattle.block_scan.specs.Programs.{are_leader}
use Rattle.block_scan.proofs.programs.are_leader.Given as goal

abbrev pub invariant-loop-rest : goal.invariant-loop-rest
invariant-loop-rest l = are_leader l.rest ≡ are_leader l.fn.frames

abbrev pub decreases-loop-rest : goal.decreases-loop-rest
decreases-loop-rest l = length l.rest
