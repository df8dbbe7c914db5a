use Rattle.std.proofs.Common.{◌≡◌, Some, length}
use Rattle.pal_asm.specs.Expressions.{value_after}
use Rattle.pal_asm.specs.Expressions as spec
use Rattle.pal_asm.specs.Faults.{terms_fault}
use Rattle.host_sources.specs.JudgeSteps.{known_last}
use Rattle.host_sources.proofs.judging.value_of.Given as goal

abbrev pub invariant-loop-rest : goal.invariant-loop-rest
invariant-loop-rest l = record {
  value : value_after (known_last l.fn.now l.fn.last) l.fn.place (Some l.value) l.rest ≡ spec.value_of (known_last l.fn.now l.fn.last) l.fn.place l.fn.parts;
  fault : terms_fault (known_last l.fn.now l.fn.last) l.fn.place l.rest ≡ terms_fault (known_last l.fn.now l.fn.last) l.fn.place l.fn.parts;
}

abbrev pub decreases-loop-rest : goal.decreases-loop-rest
decreases-loop-rest l = length l.rest
