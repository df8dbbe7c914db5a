use Rattle.std.proofs.Common.{◌≡◌, length}
use Rattle.pal8_grammar.specs.Values.{with_literals_closed}
use Rattle.pal8_grammar.proofs.readers.Reader.finish.Given as goal

-- the literals that are open are still to be closed
abbrev pub invariant-loop-outer : goal.invariant-loop-outer
invariant-loop-outer l = with_literals_closed l.self.literals l.self.steps ≡ with_literals_closed l.fn.self.literals l.fn.self.steps

abbrev pub decreases-loop-outer : goal.decreases-loop-outer
decreases-loop-outer l = length l.self.literals
