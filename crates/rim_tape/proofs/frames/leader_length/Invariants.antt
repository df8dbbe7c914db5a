use Rattle.std.proofs.Common.{◌≡◌, replicate, take}
use Rattle.rim_tape.proofs.frames.leader_length.Given as goal

abbrev pub invariant-loop-place : goal.invariant-loop-place
invariant-loop-place l = take l.place l.frames ≡ replicate l.place 0o200
