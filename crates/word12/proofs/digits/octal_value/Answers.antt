use Rattle.std.proofs.Common.{arith}
use Rattle.word12.proofs.OctalLemmas.{four_digits}
use Rattle.word12.proofs.digits.octal_value.Goals as goal

pub overflow_add-value : goal.overflow_add-value
overflow_add-value c = omega (arith, four_digits _ _ (omega (arith, c.loop-digit-test.true, c.requires)) c.loop-digit.invariant.small, c.from.ensures, c.in-48-to-55)
