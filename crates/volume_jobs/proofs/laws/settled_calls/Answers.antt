use Rattle.volume_jobs.proofs.SettledLemmas.{settled_on, settled_disturbed}
use Rattle.volume_jobs.proofs.laws.settled_calls.Goals as goal

pub returns : goal.returns
returns c = record {
  kept = settled_on c.counted_holds.ensures.held;
  disturbed = settled_disturbed c.counted_holds.ensures.held;
}
