use Rattle.std.proofs.Common.{◌-◌, length}
use Rattle.rim_tape.specs.ReadSteps.{HasReadSome}
use Rattle.rim_tape.proofs.reading.judge.Given as goal

abbrev pub invariant-loop-place : goal.invariant-loop-place
invariant-loop-place l = HasReadSome l.frames l.place

abbrev pub decreases-loop-place : goal.decreases-loop-place
decreases-loop-place l = length l.frames - l.place
