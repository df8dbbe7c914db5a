use Rattle.std.proofs.Common.{◌≡◌, length}
use Rattle.pal_lex.specs.Grammar.{phrase_of_tokens}
use Rattle.pal_lex.specs.AfterSteps.{with_tags_before}
use Rattle.pal_lex.proofs.grammar.phrase_of_tokens.Given as goal

abbrev pub invariant-loop-rest : goal.invariant-loop-rest
invariant-loop-rest l = with_tags_before l.names.items (phrase_of_tokens l.rest) ≡ phrase_of_tokens l.fn.tokens

abbrev pub decreases-loop-rest : goal.decreases-loop-rest
decreases-loop-rest l = length l.rest
