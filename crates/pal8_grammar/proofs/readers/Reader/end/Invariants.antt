use Rattle.std.proofs.Common.{◌≡◌, length}
use Rattle.pal8_grammar.specs.Values.{with_end}
use Rattle.pal8_grammar.specs.Steps.{setting_of}
use Rattle.pal8_grammar.proofs.readers.Reader.end.Given as goal

-- the token goes on with none of the literals that were closed
abbrev pub invariant-loop-outer : goal.invariant-loop-outer
invariant-loop-outer l =
    with_end (setting_of l.names l.rules) l.token l.self.literals l.self.steps ≡ with_end (setting_of l.fn.names l.fn.rules) l.fn.token l.fn.self.literals l.fn.self.steps

abbrev pub decreases-loop-outer : goal.decreases-loop-outer
decreases-loop-outer l = length l.self.literals
