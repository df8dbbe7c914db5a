use Rattle.std.proofs.Common.{◌≡◌, ◌++◌, length}
use Rattle.std.specs.Option.{option_copied}
use Rattle.change_commands.specs.Copying.{stored_lines}
use Rattle.change_commands.proofs.copying.put_lines.Given as goal

abbrev pub invariant-loop-rest : goal.invariant-loop-rest
invariant-loop-rest l = l.lines.items ++ stored_lines (option_copied l.fn.name) l.rest l.left ≡ l.fn.lines.items ++ stored_lines (option_copied l.fn.name) l.files l.cuts

abbrev pub decreases-loop-rest : goal.decreases-loop-rest
decreases-loop-rest l = length l.rest
