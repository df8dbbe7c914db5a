use Rattle.std.proofs.Common.{◌∙◌, arith, sym}
use Rattle.archive_files.proofs.CheckLemmas.{lines_more, word_is}
use Rattle.archive_files.proofs.checking.put_segments.Goals as goal

pub loop-left-preserved : goal.loop-left-preserved
loop-left-preserved c =
    let size = c.block-words.ensures.size in
    let blocks = c.args.volume.now.blocks in
    let words = c.block-words.result.now in
    lines_more c.loop-left.left c.loop-left.number c.index-words-0.result c.from-number.result blocks _ _ _ c.loop-left-test.true c.if-number-gt0.true c.if-number-lt-FIRST_FILE_BLOCK.true
    (word_is blocks _ 0 _ words c.block-words.ensures.words (omega (arith, size)) c.index-words-0.is)
    (word_is blocks _ 2 _ words c.block-words.ensures.words (omega (arith, size)) c.index-words-2.is ∙ sym (c.from-number.ensures ∙ c.get.ensures.value))
    c.in_ok-put_segment.ensures c.loop-left.invariant
