use Rattle.std.proofs.Common.{◌∙◌, ap, ◌++◌, arith}
use Rattle.std.proofs.lemmas.List.{take_all}
use Rattle.block_scan.specs.Segments.{segment_at, segments_from}
use Rattle.block_scan.proofs.SegmentLemmas.{one-more}
use Rattle.block_scan.proofs.segments.segments_in.Goals as goal

pub loop-place-preserved : goal.loop-place-preserved
loop-place-preserved c = record {
  segments = one-more c.blocks-count.result c.loop-place.place c.args.volume.now.blocks c.block.result.now c.loop-place.segments.items c.put_segment.new.out.items (omega (arith, c.loop-place-test.true, c.blocks-count.ensures.count)) c.block.ensures.words
      c.loop-place.invariant.segments
      (c.in_ok-put_segment.ensures.segment ∙ ap (λ n. c.loop-place.segments.items ++ segment_at n c.loop-place.place c.block.result.now) c.loop-place.invariant.size);
  size = c.put_segment.ensures.same ∙ c.loop-place.invariant.size;
}

pub returns : goal.returns
returns c =
    c.loop-place.invariant.segments
    ∙ ap (segments_from c.blocks-count.result 0) (take_all c.loop-place.place c.args.volume.now.blocks (omega (arith, c.loop-place-test.false, c.blocks-count.ensures.count)))
    ∙ ap (λ n. segments_from n 0 c.args.volume.now.blocks) c.blocks-count.ensures.count
