use Rattle.std.proofs.Common.{◌∙◌}
use Rattle.pal_sym.specs.Values.{symbol_value}
use Rattle.pal_asm.proofs.NameLemmas.{judged_one}
use Rattle.pal_asm.proofs.names.judge_tags.Goals as goal

pub loop-rest-preserved : goal.loop-rest-preserved
loop-rest-preserved c =
    judged_one c.loop-rest.rest.now c.tag-item.result c.args.location (symbol_value c.args.symbols.now) c.in-len1-up.len_at_least c.tag-item.is c.in_ok-judge_tag.ensures ∙ c.loop-rest.invariant
