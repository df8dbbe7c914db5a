use Rattle.std.proofs.Common.{Ok, inl, inr, map, refl, subst, sym}
use Rattle.image_files.specs.Places.{IsApart}
use Rattle.assemble_commands.specs.Places.{AreApart, input_place}
use Rattle.image_files.proofs.WorkLemmas.{ends_with, first-and-others, no_item}
use Rattle.assemble_commands.proofs.places.keep_each.Goals as goal

pub returns-in_err-keep_source : goal.returns-in_err-keep_source
returns-in_err-keep_source g c =
    c.loop-rest.invariant c.from_residual.result (g.H.Host.history c.keep_source.new.host)
    (subst (λ names. AreApart c.args.content c.args.place.now (map (λ name. name.bytes.items) names) (g.H.Host.history c.loop-rest.host) c.from_residual.result (g.H.Host.history c.keep_source.new.host))
    (sym (first-and-others c.loop-rest.rest.now c.source-item.result c.in-len1-up.len_at_least c.source-item.is))
    (inl (ends_with (IsApart c.args.content c.args.place.now (input_place c.source-item.result.bytes.items)) _ _ _ _
    (rw c.as_str.ensures.value at c.in_err-keep_source.ensures) c.from_residual.ensures)))

pub loop-rest-preserved : goal.loop-rest-preserved
loop-rest-preserved g c = λ result new later.
    c.loop-rest.invariant result new
    (subst (λ names. AreApart c.args.content c.args.place.now (map (λ name. name.bytes.items) names) (g.H.Host.history c.loop-rest.host) result new)
    (sym (first-and-others c.loop-rest.rest.now c.source-item.result c.in-len1-up.len_at_least c.source-item.is))
    (inr (record { given = tt; between = g.H.Host.history c.keep_source.new.host; done = rw c.as_str.ensures.value at c.in_ok-keep_source.ensures; after = later })))

pub returns : goal.returns
returns g c = c.loop-rest.invariant (Ok tt) (g.H.Host.history c.loop-rest.host)
    (subst (λ names. AreApart c.args.content c.args.place.now (map (λ name. name.bytes.items) names) (g.H.Host.history c.loop-rest.host) (Ok tt) (g.H.Host.history c.loop-rest.host))
    (sym (no_item c.loop-rest.rest.now c.in_default.len_below)) (tt, refl))
