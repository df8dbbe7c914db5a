use Rattle.std.proofs.Common.{◌≡◌, ◌++◌, length}
use Rattle.put_commands.specs.Putting.{stored_lines}
use Rattle.put_commands.proofs.putting.put_lines.Given as goal

abbrev pub invariant-loop-rest : goal.invariant-loop-rest
invariant-loop-rest l = l.lines.items ++ stored_lines l.rest l.counts ≡ l.fn.lines.items ++ stored_lines l.fn.files l.fn.blocks

abbrev pub decreases-loop-rest : goal.decreases-loop-rest
decreases-loop-rest l = length l.rest
