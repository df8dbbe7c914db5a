use Rattle.std.proofs.Common.{◌≡◌, ◌++◌, length}
use Rattle.tape_source.specs.Lines.{with_lead}
use Rattle.tape_source.specs.Patterns.{patterns_of, names}
use Rattle.tape_source.proofs.patterns.put_listed.Given as goal

abbrev pub invariant-loop-rest : goal.invariant-loop-rest
invariant-loop-rest l = l.text.items ++ with_lead l.byte (names (patterns_of l.bits l.rest)) ≡ l.fn.text.items ++ with_lead 9 (names (patterns_of l.bits l.fn.list))

abbrev pub decreases-loop-rest : goal.decreases-loop-rest
decreases-loop-rest l = length l.rest
