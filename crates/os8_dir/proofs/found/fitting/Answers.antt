use Rattle.std.proofs.Common.{◌≡◌, ◌+◌, ◌∷◌, [], drop, ap, sym, ◌∙◌, arith}
use Rattle.std.proofs.lemmas.List.{drop_all}
use Rattle.os8_dir.specs.Entries.{total}
use Rattle.os8_dir.proofs.SegmentLemmas.{drop-item}
use Rattle.os8_dir.proofs.FoundLemmas.{choice-more, best-fitting, or_better-end}
use Rattle.os8_dir.proofs.found.fitting.Goals as goal

pub loop-entry-preserved : goal.loop-entry-preserved
loop-entry-preserved c =
    let es = c.args.entries.now in
    let k = c.loop-entry.entry-index in
    let is : drop k es ≡ c.entry-item.result ∷ drop (k + 1) es = drop-item k es c.entry-item.result c.loop-entry-test.true c.entry-item.is in
    record {
      same = c.loop-entry.invariant.same ∙ rw (c.with_room-chosen.ensures, c.length-place.ensures) (choice-more c.args.wish c.loop-entry.chosen c.loop-entry.place c.entry-item.result (drop k es) (drop (k + 1) es) is);
      fits = omega (arith, ap total is, c.loop-entry.invariant.fits, c.length-place.ensures);
    }

pub returns : goal.returns
returns c =
    let es = c.args.entries.now in
    let none : drop c.loop-entry.entry-index es ≡ [] = drop_all c.loop-entry.entry-index es c.loop-entry-test.false in
    sym (sym (best-fitting c.args.wish _) ∙ c.loop-entry.invariant.same ∙ rw none (or_better-end c.args.wish c.loop-entry.chosen))
