use Rattle.std.proofs.Common.{length}
use Rattle.pal8_tape.proofs.JoinLemmas.{IsJoining}
use Rattle.pal8_tape.proofs.joins.join_all.Given as goal

abbrev pub invariant-loop-rest : goal.invariant-loop-rest
invariant-loop-rest l = IsJoining l.fn.options l.sources l.rest l.join.text.items l.join.counts.items l.pass

abbrev pub decreases-loop-rest : goal.decreases-loop-rest
decreases-loop-rest l = length l.rest
