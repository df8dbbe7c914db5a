use Rattle.std.proofs.Common.{◌≡◌, ◌++◌, take, drop, length}
use Rattle.volume_jobs.specs.Steps.{no_jobs, without_holds}
use Rattle.volume_jobs.proofs.places.release_each.Given as goal

-- the first places have let go
abbrev pub invariant-loop-place : goal.invariant-loop-place
invariant-loop-place g l = record {
  size : length l.places ≡ length l.fn.places;
  done : l.places ≡ no_jobs (take l.place l.fn.places) ++ drop l.place l.fn.places;
  gone : l.files ≡ record l.fn.files { holds = without_holds (take l.place l.fn.places) l.fn.files.holds };
}
