use Rattle.std.proofs.Common.{◌+◌, arith, ap, sym, ◌∙◌, slice_set}
use Rattle.std.proofs.lemmas.Result.{err_from_is_err_and}
use Rattle.volume_image.specs.Volume.{next_count}
use Rattle.os8_files.specs.WriteSteps.{with_segments}
use Rattle.os8_files.proofs.WrittenLemmas.{keeps-high, segments-next}
use Rattle.os8_files.proofs.CountLemmas.{stops-in-part, count-next}
use Rattle.os8_files.proofs.segments.write_segments.Goals as goal

pub returns-in_err-write_segment-clause-err : goal.returns-in_err-write_segment-clause-err
returns-in_err-write_segment-clause-err g c =
    let p = err_from_is_err_and c.from_residual.result c.from_residual.ensures.1 in
    rw p.1 (keeps-high c.loop-number.number c.args.directory.now (g.S.BlockStore.contents c.args.store.now) (g.S.BlockStore.contents c.loop-number.store) (g.S.BlockStore.contents c.write_segment.new.store) c.in_err-write_segment.ensures.err.words
    (omega (arith, c.loop-number-test.true, c.segment_count-number-end.ensures.value, c.segment_count-number-end.ensures.six c.requires.fits)) c.loop-number.invariant.contents c.in_err-write_segment.ensures.err.rest)

pub returns-in_err-write_segment-clause-part : goal.returns-in_err-write_segment-clause-part
returns-in_err-write_segment-clause-part g c =
    let p = err_from_is_err_and c.from_residual.result c.from_residual.ensures.1 in
    rw p.1 (stops-in-part c.loop-number.number c.args.directory.now (g.S.BlockStore.contents c.args.store.now) (g.S.BlockStore.contents c.loop-number.store) (g.S.BlockStore.contents c.write_segment.new.store) c.in_err-write_segment.ensures.err.words
    (g.S.BlockStore.writes c.args.store.now) (g.S.BlockStore.writes c.write_segment.new.store)
    (omega (arith, c.loop-number-test.true, c.segment_count-number-end.ensures.value))
    (omega (arith, c.loop-number-test.true, c.segment_count-number-end.ensures.value, c.segment_count-number-end.ensures.six c.requires.fits))
    (omega (arith, c.loop-number-test.true, c.segment_count-number-end.ensures.value, c.segment_count-number-end.ensures.six c.requires.fits, c.blocks-blocks.ensures.volume.least)) c.loop-number.invariant.contents c.in_err-write_segment.ensures.err.rest
    (c.in_err-write_segment.ensures.tried ∙ ap next_count c.loop-number.invariant.writes))

pub loop-number-preserved : goal.loop-number-preserved
loop-number-preserved g c =
    let old = g.S.BlockStore.contents c.args.store.now in
    let d = c.args.directory.now in
    record {
      contents =
          c.in_ok-write_segment.ensures.ok
          ∙ ap (λ bs. slice_set bs (c.loop-number.number + 1) c.segment.new.words) c.loop-number.invariant.contents
          ∙ ap (λ ws. slice_set (with_segments c.loop-number.number d old) (c.loop-number.number + 1) ws) c.segment.ensures.words
          ∙ sym (segments-next c.loop-number.number d old);
      kept = c.in_ok-write_segment.ensures.kept;
      volume = c.in_ok-write_segment.ensures.volume;
      reads = c.in_ok-write_segment.ensures.reads ∙ c.loop-number.invariant.reads;
      failed_reads = omega (arith, c.in_ok-write_segment.ensures.failed_reads, c.loop-number.invariant.failed_reads);
      writes =
          count-next c.loop-number.number d old _ c.segment.new.words (g.S.BlockStore.writes c.args.store.now) _ _ c.loop-number.invariant.contents c.segment.ensures.words c.loop-number.invariant.writes c.in_ok-write_segment.ensures.writes;
      failed_writes = c.in_ok-write_segment.ensures.failed_writes ∙ c.loop-number.invariant.failed_writes;
    }
