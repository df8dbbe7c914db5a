use Rattle.std.proofs.Common.{◌≡◌, length}
use Rattle.name_spelling.specs.Patterns as spec
use Rattle.name_spelling.proofs.patterns.has_sign.Given as goal

-- no sign stands in what is passed
abbrev pub invariant-loop-rest : goal.invariant-loop-rest
invariant-loop-rest l = spec.has_sign l.rest ≡ spec.has_sign l.word

abbrev pub decreases-loop-rest : goal.decreases-loop-rest
decreases-loop-rest l = length l.rest
