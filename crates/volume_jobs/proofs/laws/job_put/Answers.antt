use Rattle.volume_jobs.proofs.NumberLemmas.{put_there, put_beside}
use Rattle.volume_jobs.proofs.laws.job_put.Goals as goal

pub returns : goal.returns
returns c = record {
  it = put_there;
  others = put_beside;
}
