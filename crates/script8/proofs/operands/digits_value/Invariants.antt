use Rattle.std.proofs.Common.{◌≡◌, ◌<◌, drop}
use Rattle.script8.specs.Lines.{digits_from}
use Rattle.script8.proofs.NumberLemmas.{limit}
use Rattle.script8.proofs.operands.digits_value.Given as goal

-- the value is that of the digits so far
abbrev pub invariant-loop-digit : goal.invariant-loop-digit
invariant-loop-digit l = record {
  read : digits_from 0 l.digits ≡ digits_from l.value (drop l.digit-index l.digits);
  small : l.value < limit l.digit-index;
}
