use Rattle.std.proofs.Common.{◌∙◌, ◌-◌, ap, drop, length, map, sym, take}
use Rattle.image_files.proofs.LeftoverLemmas.{kept-all, kept-more}
use Rattle.image_files.proofs.WorkLemmas.{first-and-others, no_item}
use Rattle.image_files.proofs.leftovers.images_in.Goals as goal

pub loop-rest-preserved : goal.loop-rest-preserved
loop-rest-preserved c =
    kept-more c.args.is_one (map (λ name. name.bytes.items) c.loop-rest.rest.now) c.name-item.result.bytes.items (map (λ name. name.bytes.items) (take (length c.loop-rest.rest.now - 1) (drop 1 c.loop-rest.rest.now)))
    (map (λ name. name.bytes.items) c.loop-rest.images.items) (map (λ name. name.bytes.items) c.take_image.new.images.items)
    (ap (λ names. map (λ name. name.bytes.items) names) (first-and-others c.loop-rest.rest.now c.name-item.result c.in-len1-up.len_at_least c.name-item.is))
    (rw c.as_str.ensures.value at c.in_ok-take_image.ensures)
    ∙ c.loop-rest.invariant

pub returns : goal.returns
returns c =
    sym (kept-all c.args.is_one (map (λ name. name.bytes.items) c.loop-rest.rest.now) (map (λ name. name.bytes.items) c.loop-rest.images.items) (ap (λ names. map (λ name. name.bytes.items) names) (no_item c.loop-rest.rest.now c.in_default.len_below)))
    ∙ c.loop-rest.invariant
