use Rattle.volume_jobs.proofs.LoadLemmas.{end_told}
use Rattle.volume_jobs.proofs.loading.Loading.end.Goals as goal

pub returns-in-Err-clause-ends : goal.returns-in-Err-clause-ends
returns-in-Err-clause-ends c = λ given taken. end_told c.no_fault.ensures c.one_fault.ensures given c.in-Err.fault taken.fine (c.in-Err.ensures given taken.fed)
