use Rattle.std.proofs.Common.{◌≡◌, length}
use Rattle.tape_source.specs.Patterns.{patterns_of, or_after}
use Rattle.tape_source.proofs.patterns.value_of.Given as goal

abbrev pub invariant-loop-rest : goal.invariant-loop-rest
invariant-loop-rest l = or_after l.value (patterns_of l.bits l.rest) ≡ or_after 0 (patterns_of l.bits l.fn.list)

abbrev pub decreases-loop-rest : goal.decreases-loop-rest
decreases-loop-rest l = length l.rest
