use Rattle.std.proofs.Common.{◌≡◌, Some, length}
use Rattle.pal_asm.specs.Expressions.{value_after}
use Rattle.pal_asm.specs.Expressions as spec
use Rattle.host_sources.specs.Symbols.{meaning_in}
use Rattle.host_sources.proofs.names.value_of.Given as goal

abbrev pub invariant-loop-rest : goal.invariant-loop-rest
invariant-loop-rest l = value_after (meaning_in l.fn.symbols) l.fn.place (Some l.value) l.rest ≡ spec.value_of (meaning_in l.fn.symbols) l.fn.place l.fn.parts

abbrev pub decreases-loop-rest : goal.decreases-loop-rest
decreases-loop-rest l = length l.rest
