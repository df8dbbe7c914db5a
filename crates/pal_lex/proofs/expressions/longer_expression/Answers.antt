use Rattle.std.proofs.Common.{◌∙◌}
use Rattle.pal_lex.proofs.GrammarLemmas.{parts_more}
use Rattle.pal_lex.proofs.expressions.longer_expression.Goals as goal

pub loop-rest-preserved : goal.loop-rest-preserved
loop-rest-preserved c =
    parts_more c.args.blanks c.loop-rest.rest.now c.joint-item.result c.term-item.result _ _ c.loop-rest.parts.items c.push.new.self.items
    c.in-len2-up.len_at_least c.joint-item.is c.term-item.is c.in-Some.ensures c.in-Some-term_of.ensures c.in_ok-push-in-Some-term_of.ensures.ok
    ∙ c.loop-rest.invariant
