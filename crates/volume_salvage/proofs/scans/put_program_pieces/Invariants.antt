use Rattle.std.proofs.Common.{◌≡◌, ◌++◌, length, map}
use Rattle.volume_salvage.specs.Scanning.{piece_of_program}
use Rattle.volume_salvage.proofs.scans.put_program_pieces.Given as goal

abbrev pub invariant-loop-rest : goal.invariant-loop-rest
invariant-loop-rest l = l.out.items ++ map piece_of_program l.rest ≡ l.fn.out.items ++ map piece_of_program l.fn.programs

abbrev pub decreases-loop-rest : goal.decreases-loop-rest
decreases-loop-rest l = length l.rest
