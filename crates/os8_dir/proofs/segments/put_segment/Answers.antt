use Rattle.std.proofs.Common.{◌≡◌, arith}
use Rattle.os8_dir.proofs.SegmentLemmas.{segment-made}
use Rattle.os8_dir.proofs.segments.put_segment.Goals as goal

pub returns : goal.returns
returns c =
    let first : c.low.result ≡ c.args.first = omega (arith, c.low.ensures.value) in
    let link : c.low-2.result ≡ c.args.link = omega (arith, c.low-2.ensures.value) in
    rw (c.put_entries.ensures, c.minus_word.ensures, first, link, c.minus_word-2.ensures) (segment-made c.args.first c.args.info c.args.link c.args.entries.now c.requires.fits)
