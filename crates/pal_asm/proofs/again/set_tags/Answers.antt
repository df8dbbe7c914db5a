use Rattle.std.proofs.Common.{◌∙◌}
use Rattle.pal_asm.proofs.AgainLemmas.{set_left}
use Rattle.pal_asm.proofs.again.set_tags.Goals as goal

pub loop-rest-preserved : goal.loop-rest-preserved
loop-rest-preserved c = λ n.
    set_left c.loop-rest.rest.now c.tag-item.result c.from_number.result c.args.place c.loop-rest.symbols c.again.new.self
    c.in-len1-up.len_at_least c.tag-item.is (c.from_number.ensures ∙ c.number.ensures) c.again.ensures n
    ∙ c.loop-rest.invariant n
