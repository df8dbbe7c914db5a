use Rattle.std.proofs.Common.{◌≡◌, take, ◌++◌, ◌≤◌}
use Rattle.std.specs.Prelude.{vec_capacity}
use Rattle.refusals.specs.Listed.{file_lines}
use Rattle.script8.proofs.reports.put_direct.Given as goal

-- the lines of the files so far are appended
abbrev pub invariant-loop-file : goal.invariant-loop-file
invariant-loop-file l = record {
  lines : l.out.items ≡ l.fn.out.items ++ file_lines (take l.file-index l.files);
  capacity : vec_capacity l.fn.out ≤ vec_capacity l.out;
}
