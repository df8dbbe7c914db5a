use Rattle.std.proofs.Common.{◌≡◌, ◌++◌}
use Rattle.block_words.specs.Rows.{rows}
use Rattle.block_words.proofs.dumping.put_rows.Given as goal

abbrev pub invariant-loop-number : goal.invariant-loop-number
invariant-loop-number l = l.text.items ≡ l.fn.text.items ++ rows l.form l.words l.number
