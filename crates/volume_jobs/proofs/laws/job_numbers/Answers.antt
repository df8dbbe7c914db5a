use Rattle.volume_jobs.proofs.NumberLemmas.{lowest_free, none_free, lowest_taken, none_taken}
use Rattle.volume_jobs.proofs.laws.job_numbers.Goals as goal

pub returns : goal.returns
returns c = record {
  free = lowest_free;
  full = none_free;
  lowest = lowest_taken;
  none = none_taken;
}
