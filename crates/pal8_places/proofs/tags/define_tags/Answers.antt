use Rattle.std.proofs.Common.{◌∙◌, Err, sym, subst}
use Rattle.pal8_places.specs.Steps.{Defines}
use Rattle.pal8_places.specs.Passing.{standing}
use Rattle.pal8_places.proofs.TagLemmas.{tag_fails, tag_goes_on}
use Rattle.pal8_places.proofs.tags.define_tags.Goals as goal

pub loop-rest-preserved : goal.loop-rest-preserved
loop-rest-preserved c =
    tag_goes_on c.loop-rest.rest.now c.tag-item.result c.next-item.result (standing c.loop-rest.names c.args.position) c.in-len2-up.len_at_least c.tag-item.is
    c.next-item.is (sym c.is_comma.ensures ∙ c.if-not-is_comma.false) c.args.position c.define_token.new.names (c.in-Ok.ensures {u = tt})
    ∙ c.loop-rest.invariant

pub returns-in-Err : goal.returns-in-Err
returns-in-Err c =
    subst (λ w. Defines w c.args.position (Err c.in-Err.stop) c.define_token.new.names) c.loop-rest.invariant
    (tag_fails c.loop-rest.rest.now c.tag-item.result c.next-item.result (standing c.loop-rest.names c.args.position) c.in-len2-up.len_at_least c.tag-item.is
    c.next-item.is (sym c.is_comma.ensures ∙ c.if-not-is_comma.false) c.args.position c.in-Err.stop c.define_token.new.names (c.in-Err.ensures {u = tt}))
