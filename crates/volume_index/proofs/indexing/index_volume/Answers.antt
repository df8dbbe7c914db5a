use Rattle.std.proofs.Common.{◌∙◌, ◌++◌, ap}
use Rattle.volume_index.proofs.IndexLemmas.{index-whole}
use Rattle.volume_index.proofs.indexing.index_volume.Goals as goal

pub returns : goal.returns
returns c =
    let are = c.in_ok-put_files-in-Ok.ensures in
    index-whole c.args.style.now c.args.name.now c.args.number c.args.image.now c.put_files.new.out.items c.in_ok-volume.volume.blocks _ c.in-Ok.directory c.last_in-last.result
    c.first_block-first.result c.entries-entries.result.now are.0 c.in_ok-volume.ensures.volume c.read.ensures.same c.in-Ok.ensures.reading c.entries-entries.ensures.neat c.last_in-last.ensures.value
    c.first_block-first.ensures.value c.entries-entries.ensures.list are.1 (are.2 ∙ ap (λ l. l ++ are.0) c.new-lines.ensures.items)
