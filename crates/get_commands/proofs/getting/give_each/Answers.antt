use Rattle.std.proofs.Common.{◌∙◌, inl, inr, refl, subst, sym, Ok}
use Rattle.get_commands.specs.GettingMany.{GivesEach, GivesWish}
use Rattle.get_commands.proofs.CountLemmas.{done-more}
use Rattle.image_files.specs.Work.{After}
use Rattle.image_files.proofs.WorkLemmas.{ends_with, first-and-others, no_item, part_after}
use Rattle.get_commands.proofs.getting.give_each.Goals as goal

pub returns-in_err-is_there-clause-gives : goal.returns-in_err-is_there-clause-gives
returns-in_err-is_there-clause-gives g c =
    c.loop-rest.invariant.goes_on c.from_residual.result (g.H.Host.history c.give_wish-given.new.host)
    (subst (λ wishes. GivesEach c.args.form.now c.args.volume.now c.loop-rest.progress.is_told c.loop-rest.progress.all c.loop-rest.done c.loop-rest.are_there wishes (g.H.Host.history c.loop-rest.host) c.from_residual.result (g.H.Host.history c.give_wish-given.new.host))
    (sym (first-and-others c.loop-rest.rest.now c.wish-item.result c.in-len1-up.len_at_least c.wish-item.is))
    (inl (ends_with (After c.loop-rest.are_there (GivesWish c.args.form.now c.args.volume.now c.loop-rest.progress.is_told c.loop-rest.progress.all c.loop-rest.done c.wish-item.result)) _ _ _ _
    (part_after c.loop-rest.are_there (GivesWish c.args.form.now c.args.volume.now c.loop-rest.progress.is_told c.loop-rest.progress.all c.loop-rest.done c.wish-item.result) _ _ _ _ c.give_wish-given.ensures.gives c.in_err-is_there.ensures) c.from_residual.ensures)))

pub loop-rest-preserved : goal.loop-rest-preserved
loop-rest-preserved g c = record {
  told = c.give_wish-given.ensures.told ∙ c.loop-rest.invariant.told;
  all = c.give_wish-given.ensures.all ∙ c.loop-rest.invariant.all;
  count = done-more c.loop-rest.rest.now c.wish-item.result c.loop-rest.done c.count_after-done.result _ c.count_after-done.ensures (first-and-others c.loop-rest.rest.now c.wish-item.result c.in-len1-up.len_at_least c.wish-item.is) c.loop-rest.invariant.count;
  goes_on = λ result new is.
      c.loop-rest.invariant.goes_on result new
      (subst (λ wishes. GivesEach c.args.form.now c.args.volume.now c.loop-rest.progress.is_told c.loop-rest.progress.all c.loop-rest.done c.loop-rest.are_there wishes (g.H.Host.history c.loop-rest.host) result new)
      (sym (first-and-others c.loop-rest.rest.now c.wish-item.result c.in-len1-up.len_at_least c.wish-item.is))
      (inr (record { given = c.in_ok-is_there.is_there; between = g.H.Host.history c.give_wish-given.new.host; done = part_after c.loop-rest.are_there (GivesWish c.args.form.now c.args.volume.now c.loop-rest.progress.is_told c.loop-rest.progress.all c.loop-rest.done c.wish-item.result) _ _ _ _ c.give_wish-given.ensures.gives c.in_ok-is_there.ensures; after = rw (c.give_wish-given.ensures.told, c.give_wish-given.ensures.all, c.both-are_there.ensures, c.count_after-done.ensures) at is })));
}

pub returns-clause-gives : goal.returns-clause-gives
returns-clause-gives g c = c.loop-rest.invariant.goes_on (Ok c.loop-rest.are_there) (g.H.Host.history c.loop-rest.host)
    (subst (λ wishes. GivesEach c.args.form.now c.args.volume.now c.loop-rest.progress.is_told c.loop-rest.progress.all c.loop-rest.done c.loop-rest.are_there wishes (g.H.Host.history c.loop-rest.host) (Ok c.loop-rest.are_there) (g.H.Host.history c.loop-rest.host))
    (sym (no_item c.loop-rest.rest.now c.in_default.len_below)) (refl, refl))
