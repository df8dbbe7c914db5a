use Rattle.std.proofs.Common.{◌≡◌, length}
use Rattle.pal8_tape.specs.Marks as spec
use Rattle.pal8_tape.proofs.marks.meant_mark.Given as goal

abbrev pub invariant-loop-rest : goal.invariant-loop-rest
invariant-loop-rest l = spec.meant_mark l.fn.code l.fn.radix l.fn.start l.tokens ≡ spec.meant_mark l.fn.code l.fn.radix l.fn.start l.rest

abbrev pub decreases-loop-rest : goal.decreases-loop-rest
decreases-loop-rest l = length l.rest
