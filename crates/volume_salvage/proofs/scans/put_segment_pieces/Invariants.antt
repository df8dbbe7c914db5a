use Rattle.std.proofs.Common.{◌≡◌, ◌++◌, length, map}
use Rattle.volume_salvage.specs.Scanning.{piece_of_segment}
use Rattle.volume_salvage.proofs.scans.put_segment_pieces.Given as goal

abbrev pub invariant-loop-rest : goal.invariant-loop-rest
invariant-loop-rest l = l.out.items ++ map piece_of_segment l.rest ≡ l.fn.out.items ++ map piece_of_segment l.fn.segments

abbrev pub decreases-loop-rest : goal.decreases-loop-rest
decreases-loop-rest l = length l.rest
