use Rattle.std.proofs.Common.{◌≡◌, ◌<◌, drop}
use Rattle.command_table.specs.Found.{digits_from}
use Rattle.command_table.proofs.NumberLemmas.{limit}
use Rattle.command_table.proofs.numbers.digits_value.Given as goal

-- the value is that of the digits so far
abbrev pub invariant-loop-digit : goal.invariant-loop-digit
invariant-loop-digit l = record {
  read : digits_from 0 l.digits ≡ digits_from l.value (drop l.digit-index l.digits);
  small : l.value < limit l.digit-index;
}
