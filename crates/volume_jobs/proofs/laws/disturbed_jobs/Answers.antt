use Rattle.volume_jobs.proofs.PlainLemmas.{plain_disturbed}
use Rattle.volume_jobs.proofs.laws.disturbed_jobs.Goals as goal

pub returns : goal.returns
returns c = plain_disturbed
