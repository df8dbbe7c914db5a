use Rattle.std.proofs.Common.{◌≡◌, ◌-◌, ◌<◌, true, false, Ok, [], ◌∷◌, length, refl, sym, ◌∙◌, arith}
use Rattle.std.proofs.Math.ListN.{length-set}
use Rattle.std.proofs.lemmas.Result.{err_from_is_err_and}
use Rattle.os8_dir.specs.Reading.{is_unread, with_segment, block, word}
use Rattle.os8_dir.specs.Reads.{segments_to_fault}
use Rattle.os8_dir.proofs.ReadingLemmas.{meets-whole, with_links-end, with_links-past, with_links-bad, with_links-segment, with_links-next}
use Rattle.os8_dir.proofs.ReadsLemmas.{of_words, judged_end, judged_past, judged_bad, judged_some, judged_fault, judged_next, one_more, reads_done, reads_last}
use Rattle.os8_dir.proofs.LinkLemmas.{unread-high, unread-seen, unread-new, seen-first, seen-more}
use Rattle.os8_dir.proofs.drafts.Draft.add_links.Goals as goal
use Rattle.os8_dir.proofs.drafts.Draft.add_links.Goals.{then-link-gt6-via-then-link-gt6, then-link-gt6-via-else-link-gt6+then-seen-link, then-loop-left-test+else-link-gt0, else-loop-left-test}

pub loop-left-init : goal.loop-left-init
loop-left-init g c = record {
  contents = refl;
  fits = omega arith;
  marks = refl;
  reads = omega arith;
  counts = refl;
  failed_reads = refl;
  failed_writes = refl;
  writes = refl;
  read = (1 ∷ [], (λ k low. seen-first k low), omega arith, refl);
}

pub returns-then-link-gt6-clause-reading : goal.returns-then-link-gt6-clause-reading
returns-then-link-gt6-clause-reading g c =
    let i = c.loop-left.invariant.read in
    i.3 ∙ with_links-bad c.loop-left.left c.loop-left.self (g.S.BlockStore.contents c.args.store.now) i.0 c.loop-left.from c.loop-left.link c.if-link-gt0.true (elim c.then-link-gt6.branch [
      | then-link-gt6-via-then-link-gt6 w ↦ unread-high i.0 c.loop-left.link (omega (arith, w.if-link-gt6.true))
      | then-link-gt6-via-else-link-gt6+then-seen-link w ↦ unread-seen i.0 c.loop-left.link (sym (i.1 c.loop-left.link (omega (arith, w.if-link-gt6.false))) ∙ w.if-seen-link.true)
    ])

pub returns-then-link-gt6-clause-segments : goal.returns-then-link-gt6-clause-segments
returns-then-link-gt6-clause-segments g c =
    let i = c.loop-left.invariant.read in
    let bad : is_unread i.0 c.loop-left.link ≡ false = elim c.then-link-gt6.branch [
      | then-link-gt6-via-then-link-gt6 w ↦ unread-high i.0 c.loop-left.link (omega (arith, w.if-link-gt6.true))
      | then-link-gt6-via-else-link-gt6+then-seen-link w ↦ unread-seen i.0 c.loop-left.link (sym (i.1 c.loop-left.link (omega (arith, w.if-link-gt6.false))) ∙ w.if-seen-link.true)
    ] in
    reads_done _ (5 - c.loop-left.left) _ _ _ c.loop-left.invariant.counts
    (omega (arith, i.2, judged_bad c.loop-left.left c.loop-left.self (g.S.BlockStore.contents c.args.store.now) i.0 c.loop-left.link bad))

pub returns-in_err-next-clause-segments : goal.returns-in_err-next-clause-segments
returns-in_err-next-clause-segments g c =
    let i = c.loop-left.invariant.read in
    let p = err_from_is_err_and c.from_residual.result c.from_residual.ensures.1 in
    let low : c.loop-left.link < 7 = omega arith in
    let unread : is_unread i.0 c.loop-left.link ≡ true = unread-new i.0 c.loop-left.link low (sym (i.1 c.loop-left.link low) ∙ c.if-seen-link.false) in
    let blocks = g.S.BlockStore.contents c.args.store.now in
    rw (p.1, p.2) (reads_last _ (5 - c.loop-left.left) c.in_err-next.field-0.0 _ _ _ c.loop-left.invariant.counts c.in_err-next.ensures.count
    (omega (arith, i.2, judged_some c.loop-left.left c.loop-left.self blocks i.0 c.loop-left.link c.loop-left-test.true c.if-link-gt0.true unread))
    (λ words. omega (
      arith,
      i.2,
      judged_fault c.loop-left.left c.loop-left.self blocks i.0 c.loop-left.link c.in_err-next.field-0.0 c.loop-left-test.true c.if-link-gt0.true unread
          (rw (← c.requires.volume, ← c.loop-left.invariant.contents) (of_words c.in_err-next.field-0.0 _ words c.in_err-next.ensures.reading)),
    )))

pub returns-in_err-next-clause-reading : goal.returns-in_err-next-clause-reading
returns-in_err-next-clause-reading g c =
    let i = c.loop-left.invariant.read in
    let p = err_from_is_err_and c.from_residual.result c.from_residual.ensures.1 in
    let low : c.loop-left.link < 7 = omega arith in
    let unread : is_unread i.0 c.loop-left.link ≡ true = unread-new i.0 c.loop-left.link low (sym (i.1 c.loop-left.link low) ∙ c.if-seen-link.false) in
    rw (p.1, p.2) (meets-whole c.in_err-next.field-0.0 _ _ c.in_err-next.ensures.reading (λ met. i.3 ∙ with_links-segment c.loop-left.left c.loop-left.self (g.S.BlockStore.contents c.args.store.now) i.0 c.loop-left.from c.loop-left.link c.in_err-next.field-0.0 c.loop-left-test.true c.if-link-gt0.true unread (rw (← c.requires.volume, ← c.loop-left.invariant.contents) met)))

pub loop-left-preserved : goal.loop-left-preserved
loop-left-preserved g c =
    let i = c.loop-left.invariant.read in
    let low : c.loop-left.link < 7 = omega arith in
    let unread : is_unread i.0 c.loop-left.link ≡ true = unread-new i.0 c.loop-left.link low (sym (i.1 c.loop-left.link low) ∙ c.if-seen-link.false) in
    let blocks = g.S.BlockStore.contents c.args.store.now in
    let added : with_segment (length blocks) c.loop-left.self c.loop-left.link (block blocks c.loop-left.link) ≡ Ok c.add_linked.new.self = rw (← c.requires.volume, ← c.loop-left.invariant.contents) c.in_ok-next.ensures.reading in
    let next : c.in_ok-next.next ≡ word (block blocks c.loop-left.link) 2 = rw (← c.loop-left.invariant.contents) c.in_ok-next.ensures.link in
    record {
      contents = c.in_ok-next.ensures.same ∙ c.loop-left.invariant.contents;
      fits = omega (arith, c.loop-left.invariant.fits);
      marks = length-set c.loop-left.seen c.loop-left.link true ∙ c.loop-left.invariant.marks;
      reads = omega (arith, c.loop-left.invariant.reads, c.in_ok-next.ensures.reads, c.loop-left-test.true);
      counts = one_more c.loop-left.left _ _ _ c.loop-left-test.true c.loop-left.invariant.fits c.in_ok-next.ensures.count c.loop-left.invariant.counts;
      failed_reads = c.in_ok-next.ensures.failed_reads ∙ c.loop-left.invariant.failed_reads;
      failed_writes = c.in_ok-next.ensures.failed_writes ∙ c.loop-left.invariant.failed_writes;
      writes = c.in_ok-next.ensures.writes ∙ c.loop-left.invariant.writes;
      read = (c.loop-left.link ∷ i.0, (λ k small. seen-more c.loop-left.seen i.0 c.loop-left.link k (omega (arith, c.loop-left.invariant.marks)) (i.1 k small)), rw next (omega (arith, i.2, judged_next c.loop-left.left c.loop-left.self c.add_linked.new.self blocks i.0 c.loop-left.link c.loop-left-test.true c.if-link-gt0.true unread added, c.loop-left-test.true, c.loop-left.invariant.fits)), rw next (i.3 ∙ with_links-next c.loop-left.left c.loop-left.self c.add_linked.new.self blocks i.0 c.loop-left.from c.loop-left.link c.loop-left-test.true c.if-link-gt0.true unread added));
    }

pub returns-then-link-gt0-2-clause-reading : goal.returns-then-link-gt0-2-clause-reading
returns-then-link-gt0-2-clause-reading g c =
    let i = c.loop-left.invariant.read in
    elim c.loop-left-test.branch [
      | then-loop-left-test+else-link-gt0 w ↦ absurd (omega (arith, w.if-link-gt0.false, c.if-link-gt0-2.true))
      | else-loop-left-test w ↦ let none : c.loop-left.left ≡ 0 = omega (arith, w.loop-left-test.false) in i.3 ∙ rw none (with_links-past c.loop-left.self (g.S.BlockStore.contents c.args.store.now) i.0 c.loop-left.from c.loop-left.link c.if-link-gt0-2.true)
    ]

pub returns-then-link-gt0-2-clause-segments : goal.returns-then-link-gt0-2-clause-segments
returns-then-link-gt0-2-clause-segments g c =
    let i = c.loop-left.invariant.read in
    elim c.loop-left-test.branch [
      | then-loop-left-test+else-link-gt0 w ↦ absurd (omega (arith, w.if-link-gt0.false, c.if-link-gt0-2.true))
      | else-loop-left-test w ↦
          let none : c.loop-left.left ≡ 0 = omega (arith, w.loop-left-test.false) in
          let past : segments_to_fault c.loop-left.left c.loop-left.self (g.S.BlockStore.contents c.args.store.now) i.0 c.loop-left.link ≡ 0 =
          rw none (judged_past c.loop-left.self (g.S.BlockStore.contents c.args.store.now) i.0 c.loop-left.link) in
          reads_done _ (5 - c.loop-left.left) _ _ _ c.loop-left.invariant.counts (omega (arith, i.2, past))
    ]

pub returns-clause-segments : goal.returns-clause-segments
returns-clause-segments g c =
    let i = c.loop-left.invariant.read in
    let blocks = g.S.BlockStore.contents c.args.store.now in
    let none : c.loop-left.link ≡ 0 = omega arith in
    let ended : segments_to_fault c.loop-left.left c.loop-left.self blocks i.0 c.loop-left.link ≡ 0 = rw none (judged_end c.loop-left.left c.loop-left.self blocks i.0) in
    reads_done _ (5 - c.loop-left.left) _ _ _ c.loop-left.invariant.counts (omega (arith, i.2, ended))

pub returns-clause-reading : goal.returns-clause-reading
returns-clause-reading g c =
    let i = c.loop-left.invariant.read in
    let none : c.loop-left.link ≡ 0 = omega arith in
    i.3 ∙ rw none (with_links-end c.loop-left.left c.loop-left.self (g.S.BlockStore.contents c.args.store.now) i.0 c.loop-left.from)
