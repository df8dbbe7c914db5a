use Rattle.std.proofs.Common.{◌≡◌, ◌++◌, length}
use Rattle.assemble_commands.specs.Faults.{top_bits_notes}
use Rattle.assemble_commands.proofs.faults.put_top_bits_notes.Given as goal

abbrev pub invariant-loop-rest : goal.invariant-loop-rest
invariant-loop-rest l = l.text.items ++ top_bits_notes l.rest l.left ≡ l.fn.text.items ++ top_bits_notes l.fn.sources l.fn.names

abbrev pub decreases-loop-rest : goal.decreases-loop-rest
decreases-loop-rest l = length l.rest
