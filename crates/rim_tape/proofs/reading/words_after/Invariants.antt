use Rattle.std.proofs.Common.{◌-◌, length}
use Rattle.rim_tape.specs.ReadSteps.{HasReadTo}
use Rattle.rim_tape.proofs.reading.words_after.Given as goal

abbrev pub invariant-loop-pairs : goal.invariant-loop-pairs
invariant-loop-pairs l = HasReadTo l.frames l.place l.pairs.items

abbrev pub decreases-loop-pairs : goal.decreases-loop-pairs
decreases-loop-pairs l = length l.frames - l.place
