use Rattle.std.proofs.Common.{◌≡◌, length}
use Rattle.pal_lex.specs.Grammar.{has_bad_number}
use Rattle.pal_lex.proofs.grammar.has_bad_number.Given as goal

abbrev pub invariant-loop-rest : goal.invariant-loop-rest
invariant-loop-rest l = has_bad_number l.rest ≡ has_bad_number l.fn.tokens

abbrev pub decreases-loop-rest : goal.decreases-loop-rest
decreases-loop-rest l = length l.rest
