use Rattle.std.proofs.Common.{◌∙◌, inl, inr, length, map, refl, subst, sym, Ok}
use Rattle.index_commands.specs.Indexing.{IndexesImages, IndexesNext}
use Rattle.image_files.proofs.WorkLemmas.{count-more, ends_with, first-and-others, no_item}
use Rattle.index_commands.proofs.indexing.index_each.Goals as goal

pub returns-in_err-found-clause-indexes : goal.returns-in_err-found-clause-indexes
returns-in_err-found-clause-indexes g c =
    c.loop-rest.invariant.goes_on c.from_residual.result (g.H.Host.history c.index_next.new.host)
    (subst (λ images. IndexesImages c.args.columns.now c.args.style.now c.args.reading c.loop-rest.progress.is_told c.loop-rest.done c.loop-rest.progress.all (map (λ image. image.bytes.items) images) c.loop-rest.found.is_refused c.loop-rest.found.lines.items (g.H.Host.history c.loop-rest.host) c.from_residual.result (g.H.Host.history c.index_next.new.host))
    (sym (first-and-others c.loop-rest.rest.now c.image-item.result c.in-len1-up.len_at_least c.image-item.is))
    (inl (ends_with (IndexesNext c.args.columns.now c.args.style.now c.args.reading c.loop-rest.progress.is_told c.loop-rest.done c.loop-rest.progress.all c.image-item.result.bytes.items c.loop-rest.found.is_refused c.loop-rest.found.lines.items) _ _ _ _
    (rw c.as_str.ensures.value at c.in_err-found.ensures.indexes) c.from_residual.ensures)))

pub loop-rest-preserved : goal.loop-rest-preserved
loop-rest-preserved g c = record {
  told = c.in_ok-found.ensures.told ∙ c.loop-rest.invariant.told;
  all = c.in_ok-found.ensures.all ∙ c.loop-rest.invariant.all;
  count = count-more c.loop-rest.rest.now c.image-item.result c.loop-rest.done (length c.args.images.now) (first-and-others c.loop-rest.rest.now c.image-item.result c.in-len1-up.len_at_least c.image-item.is) c.loop-rest.invariant.count;
  goes_on = λ result new is.
      c.loop-rest.invariant.goes_on result new
      (subst (λ images. IndexesImages c.args.columns.now c.args.style.now c.args.reading c.loop-rest.progress.is_told c.loop-rest.done c.loop-rest.progress.all (map (λ image. image.bytes.items) images) c.loop-rest.found.is_refused c.loop-rest.found.lines.items (g.H.Host.history c.loop-rest.host) result new)
      (sym (first-and-others c.loop-rest.rest.now c.image-item.result c.in-len1-up.len_at_least c.image-item.is))
      (inr (record { given = c.in_ok-found.found; between = g.H.Host.history c.index_next.new.host; done = rw c.as_str.ensures.value at c.in_ok-found.ensures.indexes; after = rw (c.in_ok-found.ensures.told, c.in_ok-found.ensures.all) at is })));
}

pub returns-clause-indexes : goal.returns-clause-indexes
returns-clause-indexes g c = c.loop-rest.invariant.goes_on (Ok c.loop-rest.found) (g.H.Host.history c.loop-rest.host)
    (subst (λ images. IndexesImages c.args.columns.now c.args.style.now c.args.reading c.loop-rest.progress.is_told c.loop-rest.done c.loop-rest.progress.all (map (λ image. image.bytes.items) images) c.loop-rest.found.is_refused c.loop-rest.found.lines.items (g.H.Host.history c.loop-rest.host) (Ok c.loop-rest.found) (g.H.Host.history c.loop-rest.host))
    (sym (no_item c.loop-rest.rest.now c.in_default.len_below)) ((refl, refl), refl))
