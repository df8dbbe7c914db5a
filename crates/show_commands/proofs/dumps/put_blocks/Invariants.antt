use Rattle.std.proofs.Common.{◌≡◌, ◌++◌}
use Rattle.show_commands.specs.Dumping.{block_lines}
use Rattle.show_commands.proofs.dumps.put_blocks.Given as goal

abbrev pub invariant-loop-k : goal.invariant-loop-k
invariant-loop-k l = l.text.items ≡ l.fn.text.items ++ block_lines l.form l.files l.image l.first l.k
