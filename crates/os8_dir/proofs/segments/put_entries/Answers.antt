use Rattle.std.proofs.Common.{◌≡◌, ◌+◌, ◌∷◌, drop, ap, sym, ◌∙◌, arith}
use Rattle.os8_dir.specs.Entries.{total}
use Rattle.os8_dir.proofs.SegmentLemmas.{drop-item, written-entry}
use Rattle.os8_dir.proofs.segments.put_entries.Goals as goal

pub loop-entry-preserved : goal.loop-entry-preserved
loop-entry-preserved c =
    let es = c.args.entries.now in
    let k = c.loop-entry.entry-index in
    let is : drop k es ≡ c.entry-item.result ∷ drop (k + 1) es = drop-item k es c.entry-item.result c.loop-entry-test.true c.entry-item.is in
    record {
      words = rw (c.put_entry-at.ensures.words, c.put_entry-at.ensures.place) (sym (written-entry c.loop-entry.segment c.loop-entry.at c.args.info (drop k es) (drop (k + 1) es) c.entry-item.result is) ∙ c.loop-entry.invariant.words);
      fits = omega (arith, rw is at c.loop-entry.invariant.fits, c.put_entry-at.ensures.range);
      small = omega (arith, ap total is, c.loop-entry.invariant.small);
    }
