use Rattle.std.proofs.Common.{arith}
use Rattle.command_table.proofs.NumberLemmas.{six_digits}
use Rattle.command_table.proofs.numbers.digits_value.Goals as goal

pub overflow_add-value : goal.overflow_add-value
overflow_add-value c = omega (arith, six_digits _ _ (omega (arith, c.loop-digit-test.true, c.requires)) c.loop-digit.invariant.small, c.from.ensures, c.in-48-to-57)
