use Rattle.std.proofs.Common.{◌≡◌, ◌++◌, length}
use Rattle.volume_salvage.specs.Salvaging.{file_lines}
use Rattle.volume_salvage.proofs.lines.put_files.Given as goal

abbrev pub invariant-loop-files_left : goal.invariant-loop-files_left
invariant-loop-files_left l = l.out.items ++ file_lines l.files_left l.refusals_left ≡ l.fn.out.items ++ file_lines l.fn.files l.fn.refusals

abbrev pub decreases-loop-files_left : goal.decreases-loop-files_left
decreases-loop-files_left l = length l.files_left
