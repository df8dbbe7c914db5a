use Rattle.std.proofs.Common.{◌∙◌}
use Rattle.pal_lex.proofs.GrammarLemmas.{said_more}
use Rattle.pal_lex.proofs.grammar.phrase_of_tokens.Goals as goal

pub loop-rest-preserved : goal.loop-rest-preserved
loop-rest-preserved c =
    said_more c.loop-rest.rest.now c.tag-item.result c.comma-item.result _ c.loop-rest.names.items c.push.new.self.items
    c.in-len2-up.len_at_least c.tag-item.is c.comma-item.is c.if-not-is_comma.ensures c.in-Some.ensures c.in_ok-push-in-Some.ensures.items
    ∙ c.loop-rest.invariant
