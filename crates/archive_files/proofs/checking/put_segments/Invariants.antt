use Rattle.std.proofs.Common.{◌≡◌, ◌++◌}
use Rattle.archive_files.specs.Checking.{segment_lines}
use Rattle.archive_files.proofs.checking.put_segments.Given as goal

abbrev pub invariant-loop-left : goal.invariant-loop-left
invariant-loop-left l = l.out.items ++ segment_lines l.left l.volume.blocks l.number ≡ l.fn.out.items ++ segment_lines 6 l.volume.blocks 1

abbrev pub decreases-loop-left : goal.decreases-loop-left
decreases-loop-left l = l.left
