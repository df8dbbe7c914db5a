use Rattle.std.proofs.Common.{arith}
use Rattle.debug_lines.proofs.NumberLemmas.{next_fits}
use Rattle.debug_lines.proofs.numbers.decimal_value.Goals as goal

pub overflow_mul-value : goal.overflow_mul-value
overflow_mul-value c = omega (arith, next_fits _ _ (omega (arith, c.loop-digit-test.true, c.requires)) c.loop-digit.invariant.small)

pub overflow_add-value : goal.overflow_add-value
overflow_add-value c = omega (arith, next_fits _ _ (omega (arith, c.loop-digit-test.true, c.requires)) c.loop-digit.invariant.small, c.from.ensures)
