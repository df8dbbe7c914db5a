use Rattle.std.proofs.Common.{◌∙◌, ◌++◌, [], ap, sym, append_assoc}
use Rattle.std.proofs.lemmas.List.{append-nil}
use Rattle.volume_index.proofs.IndexLemmas.{blocks-more, no-more, one-more}
use Rattle.volume_index.proofs.indexing.put_files.Goals as goal

pub loop-rest-preserved : goal.loop-rest-preserved
loop-rest-preserved c =
    let put = c.in_ok-put_entry.ensures in
    record {
      lines = λ more are.
          let so = c.loop-rest.invariant.lines (put.0 ++ more)
          (one-more c.args.style.now c.args.name.now c.args.number c.args.last c.args.image.now c.args.volume.now.blocks c.loop-rest.place c.loop-rest.rest.now c.entry-item.result c.length-place.result put.0 more c.in-len1-up.len_at_least c.entry-item.is c.length-place.ensures put.1 are) in
          (so.0, so.1, ap (λ l. l ++ more) put.2 ∙ append_assoc c.loop-rest.out.items put.0 more ∙ so.2);
      blocks = blocks-more c.loop-rest.place c.length-place.result _ c.loop-rest.rest.now c.entry-item.result c.in-len1-up.len_at_least c.entry-item.is c.length-place.ensures c.loop-rest.invariant.blocks;
    }

pub returns : goal.returns
returns c =
    let so = c.loop-rest.invariant.lines [] (no-more c.args.style.now c.args.name.now c.args.number c.args.last c.args.image.now c.args.volume.now.blocks c.loop-rest.place c.loop-rest.rest.now c.in_default.len_below) in
    (so.0, so.1, sym (append-nil c.loop-rest.out.items) ∙ so.2)
