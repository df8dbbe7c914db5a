use Rattle.std.proofs.Common.{◌≡◌, length}
use Rattle.pal_lex.specs.Grammar.{parts}
use Rattle.pal_lex.specs.AfterSteps.{parts_after}
use Rattle.pal_lex.proofs.expressions.longer_expression.Given as goal

abbrev pub invariant-loop-rest : goal.invariant-loop-rest
invariant-loop-rest l = parts_after l.parts.items (parts l.blanks l.rest) ≡ parts_after l.fn.before.items (parts l.blanks l.fn.tokens)

abbrev pub decreases-loop-rest : goal.decreases-loop-rest
decreases-loop-rest l = length l.rest
