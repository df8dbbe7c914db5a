use Rattle.std.proofs.Common.{◌≡◌, ◌++◌, length}
use Rattle.change_commands.specs.Deleting.{deleted_lines}
use Rattle.change_commands.proofs.deleting.put_lines.Given as goal

abbrev pub invariant-loop-rest : goal.invariant-loop-rest
invariant-loop-rest l = l.lines.items ++ deleted_lines l.rest ≡ l.fn.lines.items ++ deleted_lines l.names

abbrev pub decreases-loop-rest : goal.decreases-loop-rest
decreases-loop-rest l = length l.rest
