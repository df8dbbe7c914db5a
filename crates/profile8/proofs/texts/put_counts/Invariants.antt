use Rattle.std.proofs.Common.{◌≡◌, ◌++◌, length}
use Rattle.profile8.specs.Profile.{count_lines}
use Rattle.profile8.proofs.texts.put_counts.Given as goal

abbrev pub invariant-loop-rest : goal.invariant-loop-rest
invariant-loop-rest l = l.text.items ++ count_lines l.counts l.rest ≡ l.initial.text.items ++ count_lines l.counts l.fn.cells

abbrev pub decreases-loop-rest : goal.decreases-loop-rest
decreases-loop-rest l = length l.rest
