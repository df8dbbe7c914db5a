use Rattle.std.proofs.Common.{◌≡◌, ◌≤◌, ◌+◌, ◌*◌, length}
use Rattle.pal8_lex.specs.Judging.{tag_count}
use Rattle.pal8_lex.proofs.judging.tag_count.Given as goal

-- the tags that were counted stand before the others
abbrev pub invariant-loop-rest : goal.invariant-loop-rest
invariant-loop-rest l = record {
  same : l.count + tag_count l.rest ≡ tag_count l.fn.tokens;
  few : 2 * l.count + length l.rest ≤ length l.fn.tokens;
}

abbrev pub decreases-loop-rest : goal.decreases-loop-rest
decreases-loop-rest l = length l.rest
