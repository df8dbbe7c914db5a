use Rattle.std.proofs.Common.{◌∙◌, ◌++◌, ap, arith}
use Rattle.archive_files.proofs.RunLemmas.{run-more}
use Rattle.archive_files.proofs.words.words_at.Goals as goal

pub loop-k-preserved : goal.loop-k-preserved
loop-k-preserved c =
    c.in_ok-extend_from_slice.ensures.items ∙ ap (λ w. w ++ c.block.result.now) c.loop-k.invariant
    ∙ run-more c.args.volume.now.blocks c.args.place c.loop-k.k c.block.result.now (omega arith) c.block.ensures.words
