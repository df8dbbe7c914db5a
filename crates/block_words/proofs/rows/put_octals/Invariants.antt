use Rattle.std.proofs.Common.{◌≡◌, ◌++◌, length}
use Rattle.block_words.specs.Rows.{octals}
use Rattle.block_words.proofs.rows.put_octals.Given as goal

abbrev pub invariant-loop-rest : goal.invariant-loop-rest
invariant-loop-rest l = l.text.items ++ octals l.rest ≡ l.fn.text.items ++ octals l.fn.words

abbrev pub decreases-loop-rest : goal.decreases-loop-rest
decreases-loop-rest l = length l.rest
