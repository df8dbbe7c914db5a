use Rattle.std.proofs.Common.{◌≡◌, length}
use Rattle.host_sources.specs.Unknowns as spec
use Rattle.host_sources.specs.JudgeSteps.{known_last}
use Rattle.host_sources.proofs.unknowns.unknown_of.Given as goal

abbrev pub invariant-loop-rest : goal.invariant-loop-rest
invariant-loop-rest l = spec.unknown_of (known_last l.fn.now l.fn.last) l.rest ≡ spec.unknown_of (known_last l.fn.now l.fn.last) l.fn.parts

abbrev pub decreases-loop-rest : goal.decreases-loop-rest
decreases-loop-rest l = length l.rest
