use Rattle.std.proofs.Common.{◌≡◌, ◌<◌, length, get_or, arith, add-one}
use Rattle.std.proofs.lemmas.List.{get_or_read}
use Rattle.os8_dir.proofs.ReadingLemmas.{set-padded}
use Rattle.archive_survey.proofs.reading.information.Goals as goal

pub loop-k-preserved : goal.loop-k-preserved
loop-k-preserved c =
    let inside : c.loop-k.k < length c.args.words.now = omega arith in
    let low : c.loop-k.k < 10 = omega arith in
    let item : c.index-words-k.result ≡ get_or c.args.words.now c.loop-k.k 0 = get_or_read c.args.words.now _ _ inside c.index-words-k.is 0 in
    rw (c.loop-k.invariant, item, add-one) (set-padded 10 c.loop-k.k c.args.words.now low inside)
