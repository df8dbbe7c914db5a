use Rattle.std.proofs.Common.{◌≡◌, ◌++◌, length, None}
use Rattle.volume_index.specs.Steps.{near_text}
use Rattle.volume_index.proofs.same.put_same.Given as goal

abbrev pub invariant-loop-rest : goal.invariant-loop-rest
invariant-loop-rest l = l.out.items ++ near_text l.before l.rest ≡ l.fn.out.items ++ near_text None l.fn.lines

abbrev pub decreases-loop-rest : goal.decreases-loop-rest
decreases-loop-rest l = length l.rest
