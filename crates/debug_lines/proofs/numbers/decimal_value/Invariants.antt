use Rattle.std.proofs.Common.{◌≡◌, ◌≤◌, drop}
use Rattle.debug_lines.specs.Numbers.{decimal_after}
use Rattle.debug_lines.proofs.NumberLemmas.{limit}
use Rattle.debug_lines.proofs.numbers.decimal_value.Given as goal

-- the value is that of the digits so far
abbrev pub invariant-loop-digit : goal.invariant-loop-digit
invariant-loop-digit l = record {
  read : decimal_after 0 l.digits ≡ decimal_after l.value (drop l.digit-index l.digits);
  small : l.value ≤ limit l.digit-index;
}
