use Rattle.std.proofs.Common.{◌≡◌, ◌++◌, take, drop, length}
use Rattle.volume_jobs.specs.Settled.{with_disturbance}
use Rattle.volume_jobs.proofs.table.disturb_all.Given as goal

-- the first jobs are disturbed
abbrev pub invariant-loop-place : goal.invariant-loop-place
invariant-loop-place l = record {
  size : length l.places ≡ length l.fn.places;
  done : l.places ≡ with_disturbance (take l.place l.fn.places) ++ drop l.place l.fn.places;
}
