use Rattle.std.proofs.Common.{arith}
use Rattle.pal_lex.proofs.RunLemmas.{no_cr_more}
use Rattle.pal_lex.proofs.characters.before_cr.Goals as goal

pub loop-count-preserved : goal.loop-count-preserved
loop-count-preserved c = record {
  range = omega (arith, c.loop-count-test.true);
  none = no_cr_more c.args.bytes.now c.loop-count.count c.loop-count-test.true c.if-bytes-count-ne13.true c.loop-count.invariant.none;
}
