use Rattle.std.proofs.Common.{◌∙◌}
use Rattle.pal_lex.proofs.GrammarLemmas.{reference_indirect, reference_zero_page}
use Rattle.pal_lex.proofs.grammar.reference.Goals as goal

pub loop-rest-preserved-then-is_named : goal.loop-rest-preserved-then-is_named
loop-rest-preserved-then-is_named c =
    reference_indirect c.args.operation c.loop-rest.indirect c.loop-rest.rest.now c.blank-item.result c.word-item.result
    c.in-len2-up.len_at_least c.blank-item.is c.word-item.is c.if-not-is_blank.ensures c.if-is_named.ensures
    ∙ c.loop-rest.invariant

pub loop-rest-preserved : goal.loop-rest-preserved
loop-rest-preserved c =
    reference_zero_page c.args.operation c.loop-rest.indirect c.loop-rest.rest.now c.blank-item.result c.word-item.result
    c.in-len2-up.len_at_least c.blank-item.is c.word-item.is c.if-not-is_blank.ensures c.if-is_named.ensures c.if-not-is_named.ensures
    ∙ c.loop-rest.invariant
