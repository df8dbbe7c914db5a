use Rattle.std.proofs.Common.{◌≡◌, false, length}
use Rattle.pal_lex.specs.Grammar.{reference}
use Rattle.pal_lex.proofs.grammar.reference.Given as goal

abbrev pub invariant-loop-rest : goal.invariant-loop-rest
invariant-loop-rest l = reference l.operation l.indirect l.rest ≡ reference l.operation false l.fn.tokens

abbrev pub decreases-loop-rest : goal.decreases-loop-rest
decreases-loop-rest l = length l.rest
