use Rattle.std.proofs.Common.{◌≡◌, ◌<◌, drop}
use Rattle.word12.specs.Octal.{octal_from, octal_limit}
use Rattle.word12.proofs.digits.octal_value.Given as goal

-- the value is that of the digits so far
abbrev pub invariant-loop-digit : goal.invariant-loop-digit
invariant-loop-digit l = record {
  read : octal_from 0 l.digits ≡ octal_from l.value (drop l.digit-index l.digits);
  small : l.value < octal_limit l.digit-index;
}
