use Rattle.std.proofs.Common.{◌≡◌, length}
use Rattle.pal8_lex.specs.Judging.{has_bad}
use Rattle.pal8_lex.proofs.judging.has_bad.Given as goal

-- what was looked at has none
abbrev pub invariant-loop-rest : goal.invariant-loop-rest
invariant-loop-rest l = record {
  same : has_bad l.rest ≡ has_bad l.fn.tokens;
}

abbrev pub decreases-loop-rest : goal.decreases-loop-rest
decreases-loop-rest l = length l.rest
