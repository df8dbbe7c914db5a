use Rattle.std.proofs.Common.{◌≡◌, ◌++◌, length}
use Rattle.assemble_commands.specs.Faults.{first_lines}
use Rattle.assemble_commands.proofs.faults.put_first_lines.Given as goal

abbrev pub invariant-loop-rest : goal.invariant-loop-rest
invariant-loop-rest l = l.text.items ++ first_lines l.count l.rest ≡ l.fn.text.items ++ first_lines 3 l.fn.lines

abbrev pub decreases-loop-rest : goal.decreases-loop-rest
decreases-loop-rest l = length l.rest
