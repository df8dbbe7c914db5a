use Rattle.rim_tape.proofs.reading.words_after.Goals as goal

pub loop-pairs-preserved : goal.loop-pairs-preserved
loop-pairs-preserved c = rw c.in_ok-put.ensures (rw c.in-Some.is at (c.in_ok-pair.ensures _ c.loop-pairs.invariant))
