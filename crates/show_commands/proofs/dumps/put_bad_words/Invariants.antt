use Rattle.std.proofs.Common.{◌≡◌, ◌++◌}
use Rattle.show_commands.specs.Dumping.{bad_lines}
use Rattle.show_commands.proofs.dumps.put_bad_words.Given as goal

abbrev pub invariant-loop-k : goal.invariant-loop-k
invariant-loop-k l = l.text.items ≡ l.fn.text.items ++ bad_lines l.image l.block l.k
