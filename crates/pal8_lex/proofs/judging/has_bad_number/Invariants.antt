use Rattle.std.proofs.Common.{◌≡◌, length}
use Rattle.pal8_lex.specs.Judging.{has_bad_number}
use Rattle.pal8_lex.proofs.judging.has_bad_number.Given as goal

-- what was looked at has none
abbrev pub invariant-loop-rest : goal.invariant-loop-rest
invariant-loop-rest l = record {
  same : has_bad_number l.radix l.rest ≡ has_bad_number l.radix l.fn.tokens;
}

abbrev pub decreases-loop-rest : goal.decreases-loop-rest
decreases-loop-rest l = length l.rest
