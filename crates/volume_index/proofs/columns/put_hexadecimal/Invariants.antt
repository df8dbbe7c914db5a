use Rattle.std.proofs.Common.{◌≡◌, ◌++◌, length}
use Rattle.volume_index.specs.Columns.{hexadecimal}
use Rattle.volume_index.proofs.columns.put_hexadecimal.Given as goal

abbrev pub invariant-loop-rest : goal.invariant-loop-rest
invariant-loop-rest l = l.text.items ++ hexadecimal l.rest ≡ l.fn.text.items ++ hexadecimal l.fn.bytes

abbrev pub decreases-loop-rest : goal.decreases-loop-rest
decreases-loop-rest l = length l.rest
