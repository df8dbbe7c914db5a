use Rattle.std.proofs.Common.{◌∙◌, ap, arith}
use Rattle.os8_files.specs.Mounted.{MountState}
use Rattle.archive_files.proofs.GetLemmas.{words_more, words_all}
use Rattle.archive_files.proofs.getting.read_blocks.Goals as goal

pub loop-k-preserved : goal.loop-k-preserved
loop-k-preserved g c =
    let read = c.in_ok-read_block.ensures in
    let so_far = c.loop-k.invariant in
    record {
      running = ap (λ (m : MountState). m.stopped) read.others ∙ so_far.running;
      same = ap (λ (m : MountState). m.blocks) read.others ∙ so_far.same;
      reads = ap (λ (m : MountState). m.failed_reads) read.others ∙ so_far.reads;
      words = λ file there. c.in_ok-extend_from_slice.ensures.items
          ∙ words_more c.args.files.now.blocks c.loop-k.files.blocks c.args.name c.loop-k.k file read.file _ _ so_far.same read.there read.block there (so_far.words file there);
    }

pub returns : goal.returns
returns g c =
    let file = c.requires.there.file in (
      file,
      c.requires.there.there,
      c.loop-k.invariant.words file c.requires.there.there ∙ words_all file.1 c.loop-k.k c.args.blocks (omega arith) (omega arith) c.requires.there.whole,
    )
