use Rattle.block_scan.proofs.TailLemmas.{last-frame}
use Rattle.block_scan.proofs.tails.tails_of.Goals as goal

pub loop-rest-preserved : goal.loop-rest-preserved
loop-rest-preserved c =
    last-frame c.loop-rest.rest.now c.args.frames.now c.loop-rest.tails c.args.after c.tails_with-tails.result c.in-len1-up.len_at_least c.tails_with-tails.ensures c.loop-rest.invariant
