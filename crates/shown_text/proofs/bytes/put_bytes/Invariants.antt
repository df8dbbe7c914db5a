use Rattle.std.proofs.Common.{◌≡◌, ◌++◌, length}
use Rattle.shown_text.specs.Showing.{text_from}
use Rattle.shown_text.proofs.bytes.put_bytes.Given as goal

abbrev pub invariant-loop-rest : goal.invariant-loop-rest
invariant-loop-rest l = l.text.items ++ text_from l.fn.first l.rest ≡ l.fn.text.items ++ text_from l.fn.first l.fn.bytes

abbrev pub decreases-loop-rest : goal.decreases-loop-rest
decreases-loop-rest l = length l.rest
