use Rattle.std.proofs.Common.{◌≡◌, ◌++◌, length, map}
use Rattle.assemble_commands.specs.Faults.{texts_without_numbers}
use Rattle.assemble_commands.proofs.faults.put_without_numbers.Given as goal

abbrev pub invariant-loop-rest : goal.invariant-loop-rest
invariant-loop-rest l = l.text.items ++ texts_without_numbers (map (λ it. it.items) l.rest) ≡ l.fn.text.items ++ texts_without_numbers (map (λ it. it.items) l.fn.texts)

abbrev pub decreases-loop-rest : goal.decreases-loop-rest
decreases-loop-rest l = length l.rest
