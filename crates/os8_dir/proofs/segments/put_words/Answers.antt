use Rattle.std.proofs.Common.{◌≡◌, ◌<◌, length, get_or, sym, arith}
use Rattle.std.proofs.lemmas.List.{get_or_read}
use Rattle.os8_dir.proofs.SegmentLemmas.{written-more}
use Rattle.os8_dir.proofs.segments.put_words.Goals as goal

pub loop-k-preserved : goal.loop-k-preserved
loop-k-preserved c =
    let inside : c.loop-k.k < length c.args.words.now = omega arith in
    let item : c.index-words-k.result ≡ get_or c.args.words.now c.loop-k.k 0 = get_or_read c.args.words.now _ _ inside c.index-words-k.is 0 in
    rw (c.loop-k.invariant, item) (sym (written-more c.args.segment.now c.args.words.now c.args.at c.loop-k.k inside))
