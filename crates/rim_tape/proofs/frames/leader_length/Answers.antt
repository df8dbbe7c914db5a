use Rattle.std.proofs.Common.{arith}
use Rattle.rim_tape.proofs.FrameLemmas.{leader_more}
use Rattle.rim_tape.proofs.frames.leader_length.Goals as goal

pub loop-place-preserved : goal.loop-place-preserved
loop-place-preserved c = leader_more _ _ (omega arith) c.if-frame.false c.loop-place.invariant
