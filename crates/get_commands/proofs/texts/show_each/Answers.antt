use Rattle.std.proofs.Common.{inl, inr, map, refl, subst, sym, Ok}
use Rattle.get_commands.specs.Texts.{ShowsEach, ShowsWish}
use Rattle.image_files.specs.Work.{After}
use Rattle.image_files.proofs.WorkLemmas.{ends_with, first-and-others, no_item, part_after}
use Rattle.get_commands.proofs.texts.show_each.Goals as goal

pub returns-in_err-is_there : goal.returns-in_err-is_there
returns-in_err-is_there g c =
    c.loop-rest.invariant c.from_residual.result (g.H.Host.history c.show_wish-shown.new.host)
    (subst (λ wishes. ShowsEach c.args.are_several c.loop-rest.is_first c.loop-rest.are_there c.args.volume.now (map (λ word. word.bytes.items) c.args.words.now) wishes (g.H.Host.history c.loop-rest.host) c.from_residual.result (g.H.Host.history c.show_wish-shown.new.host))
    (sym (first-and-others c.loop-rest.rest.now c.wish-item.result c.in-len1-up.len_at_least c.wish-item.is))
    (inl (ends_with (After c.loop-rest.are_there (ShowsWish c.args.are_several c.loop-rest.is_first c.args.volume.now (map (λ word. word.bytes.items) c.args.words.now) c.wish-item.result)) _ _ _ _
    (part_after c.loop-rest.are_there (ShowsWish c.args.are_several c.loop-rest.is_first c.args.volume.now (map (λ word. word.bytes.items) c.args.words.now) c.wish-item.result) _ _ _ _ c.show_wish-shown.ensures c.in_err-is_there.ensures) c.from_residual.ensures)))

pub loop-rest-preserved : goal.loop-rest-preserved
loop-rest-preserved g c = λ result new is.
    c.loop-rest.invariant result new
    (subst (λ wishes. ShowsEach c.args.are_several c.loop-rest.is_first c.loop-rest.are_there c.args.volume.now (map (λ word. word.bytes.items) c.args.words.now) wishes (g.H.Host.history c.loop-rest.host) result new)
    (sym (first-and-others c.loop-rest.rest.now c.wish-item.result c.in-len1-up.len_at_least c.wish-item.is))
    (inr (record { given = c.in_ok-is_there.is_there; between = g.H.Host.history c.show_wish-shown.new.host; done = part_after c.loop-rest.are_there (ShowsWish c.args.are_several c.loop-rest.is_first c.args.volume.now (map (λ word. word.bytes.items) c.args.words.now) c.wish-item.result) _ _ _ _ c.show_wish-shown.ensures c.in_ok-is_there.ensures; after = rw (c.one_without-is_first.ensures, c.both-are_there.ensures) at is })))

pub returns : goal.returns
returns g c = c.loop-rest.invariant (Ok c.loop-rest.are_there) (g.H.Host.history c.loop-rest.host)
    (subst (λ wishes. ShowsEach c.args.are_several c.loop-rest.is_first c.loop-rest.are_there c.args.volume.now (map (λ word. word.bytes.items) c.args.words.now) wishes (g.H.Host.history c.loop-rest.host) (Ok c.loop-rest.are_there) (g.H.Host.history c.loop-rest.host))
    (sym (no_item c.loop-rest.rest.now c.in_default.len_below)) (refl, refl))
