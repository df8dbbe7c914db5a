use Rattle.std.proofs.Common.{arith}
use Rattle.block_scan.proofs.ProgramLemmas.{all-told, skip-here}
use Rattle.block_scan.proofs.programs.programs_of.Goals as goal

pub loop-block-preserved-in-None : goal.loop-block-preserved-in-None
loop-block-preserved-in-None c = record {
  are = λ more later.
      c.loop-block.invariant.are more
      (skip-here c.args.words.now c.args.frames.now c.split_at.result.1.now c.split_at-in-loop-block.result.1.now c.args.count c.loop-block.block more c.split_at.ensures.back c.split_at-in-loop-block.ensures.back
      c.requires.frames c.in-None.ensures later);
  inside = omega (arith, c.loop-block-test.true);
}

pub returns : goal.returns
returns c = all-told c.args.words.now c.args.count c.loop-block.block c.loop-block.programs.items c.requires.count c.loop-block.invariant.are (omega (arith, c.loop-block-test.false))
