use Rattle.std.proofs.Common.{refl, arith}
use Rattle.block_scan.proofs.ChanceLemmas.{earlier-block, one-more-block}
use Rattle.block_scan.proofs.chances.chances_of.Goals as goal

pub loop-block-preserved : goal.loop-block-preserved
loop-block-preserved c =
    let l = c.loop-block in
    let walked =
    earlier-block c.args.frames.now c.split_at-in-loop-block-2.result.0.now c.split_at-in-loop-block.result.1.now l.block l.tails c.tails_of-tails-in-loop-block.result (omega (arith, c.loop-block-test.true))
    c.split_at-in-loop-block.ensures.back c.split_at-in-loop-block-2.ensures.front l.invariant.tails_are c.tails_of-tails-in-loop-block.ensures in
    record {
      are = one-more-block c.args.frames.now c.args.count l.block _ l.chances.items c.push.new.self.items c.tails_of-tails-in-loop-block.result (omega (arith, c.loop-block-test.true)) c.in_ok-push.ensures.items
          l.invariant.are walked refl refl;
      tails_are = walked;
      inside = omega (arith, l.invariant.inside);
    }
