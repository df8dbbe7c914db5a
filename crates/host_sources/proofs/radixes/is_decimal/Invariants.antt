use Rattle.std.proofs.Common.{◌≡◌, ◌-◌, false, take, length}
use Rattle.pal_lex.specs.Text.{text_of}
use Rattle.pal_lex.specs.Statements.{radix_after, statements}
use Rattle.pal_lex.specs.Reading.{HasRead}
use Rattle.host_sources.specs.RadixSteps as spec
use Rattle.host_sources.proofs.radixes.is_decimal.Given as goal

abbrev pub invariant-loop-taken : goal.invariant-loop-taken
invariant-loop-taken l = record {
  radix : l.is_decimal ≡ spec.is_decimal (radix_after (statements (text_of (take l.taken l.text))));
  read : HasRead l.lexer 0 (text_of (take l.taken l.text));
  may : l.lexer.may_pause ≡ false;
}

abbrev pub decreases-loop-taken : goal.decreases-loop-taken
decreases-loop-taken l = length l.text - l.taken
