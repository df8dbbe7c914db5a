use Rattle.std.proofs.Common.{◌≡◌, length}
use Rattle.block_scan.specs.Segments.{first_file}
use Rattle.block_scan.proofs.segments.first_file.Given as goal

abbrev pub invariant-loop-rest : goal.invariant-loop-rest
invariant-loop-rest l = first_file l.rest ≡ first_file l.entries

abbrev pub decreases-loop-rest : goal.decreases-loop-rest
decreases-loop-rest l = length l.rest
