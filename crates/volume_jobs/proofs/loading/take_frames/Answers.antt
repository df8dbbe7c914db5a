use Rattle.std.proofs.Common.{◌++◌, subst, arith}
use Rattle.std.proofs.lemmas.Result.{err_from_is_err_and}
use Rattle.std.proofs.lemmas.List.{take_all}
use Rattle.char_pack.specs.Packing.{frames}
use Rattle.volume_jobs.specs.Reading.{HasTaken}
use Rattle.volume_jobs.proofs.FrameLemmas.{block_frames}
use Rattle.volume_jobs.proofs.TapeLemmas.{taken_more, refused}
use Rattle.volume_jobs.proofs.loading.take_frames.Goals as goal

pub loop-offset-preserved : goal.loop-offset-preserved
loop-offset-preserved c = record {
  taken = λ before first.
      let taken = c.loop-offset.invariant.taken before first in
      taken_more before (frames c.args.block.now) c.loop-offset.offset c.frame_at.result c.loop-offset.loader c.push.new.self
      (omega (arith, block_frames c.args.block.now c.requires.block, c.loop-offset-test.true)) c.frame_at.ensures (c.in_ok-push.ensures _ taken.fed);
  range = omega (arith, c.loop-offset-test.true);
}

pub returns-in_err-push : goal.returns-in_err-push
returns-in_err-push c = record {
  range = c.loop-offset.invariant.range;
  takes = λ before first.
      let taken = c.loop-offset.invariant.taken before first in
      let e = err_from_is_err_and c.from_residual.result c.from_residual.ensures.1 in
      rw (e.1, e.2) (refused before c.args.block.now c.loop-offset.offset c.frame_at.result c.loop-offset.loader c.push.new.self c.in_err-push.field-0.0
      (omega (arith, block_frames c.args.block.now c.requires.block, c.loop-offset-test.true)) c.loop-offset-test.true c.frame_at.ensures taken (c.in_err-push.ensures _ taken.fed));
}

pub returns : goal.returns
returns c = record {
  range = c.loop-offset.invariant.range;
  takes = λ before first. (
    subst (λ l. HasTaken c.loop-offset.loader (before ++ l))
        (take_all c.loop-offset.offset (frames c.args.block.now) (omega (arith, block_frames c.args.block.now c.requires.block, c.loop-offset-test.false)))
        (c.loop-offset.invariant.taken before first),
    omega (arith, c.loop-offset-test.false, c.loop-offset.invariant.range),
  );
}
