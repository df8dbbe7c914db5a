use Rattle.std.proofs.Common.{◌≡◌, ◌++◌, take, drop, length}
use Rattle.volume_jobs.specs.Steps.{without_jobs, no_jobs}
use Rattle.volume_jobs.proofs.table.let_all_go.Given as goal

-- the first jobs have let go
abbrev pub invariant-loop-place : goal.invariant-loop-place
invariant-loop-place g l = record {
  size : length l.places ≡ length l.fn.places;
  done : l.places ≡ no_jobs (take l.place l.fn.places) ++ drop l.place l.fn.places;
  gone : l.files ≡ record l.fn.files { holds = without_jobs (take l.place l.fn.places) l.fn.files.holds };
}
