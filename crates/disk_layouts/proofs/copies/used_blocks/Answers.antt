use Rattle.std.proofs.Common.{arith, refl, sym, true≢false}
use Rattle.disk_layouts.proofs.CopyLemmas.{blank_more, least_used}
use Rattle.disk_layouts.proofs.copies.used_blocks.Goals as goal

pub loop-blocks-preserved : goal.loop-blocks-preserved
loop-blocks-preserved c = record {
  zeros = blank_more c.args.image.now c.loop-blocks.blocks c.loop-blocks-test.true c.loop-blocks.invariant.zeros (c.if-is_blank.ensures.0 refl);
  most = omega arith;
}

pub returns-else-is_blank-clause-used : goal.returns-else-is_blank-clause-used
returns-else-is_blank-clause-used c = record {
  zeros = c.loop-blocks.invariant.zeros;
  least = least_used c.args.image.now c.loop-blocks.blocks c.loop-blocks-test.true (λ blank. true≢false (sym (c.if-is_blank.ensures.1 blank)));
}
