use Rattle.std.proofs.Common.{◌≡◌, ◌++◌, length}
use Rattle.volume_salvage.specs.Scanning.{piece_lines}
use Rattle.volume_salvage.proofs.scan_lines.put_pieces.Given as goal

abbrev pub invariant-loop-rest : goal.invariant-loop-rest
invariant-loop-rest l = l.out.items ++ piece_lines l.frames l.rest ≡ l.fn.out.items ++ piece_lines l.fn.frames l.fn.pieces

abbrev pub decreases-loop-rest : goal.decreases-loop-rest
decreases-loop-rest l = length l.rest
