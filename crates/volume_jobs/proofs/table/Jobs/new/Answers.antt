use Rattle.std.proofs.Common.{refl}
use Rattle.volume_jobs.proofs.EndLemmas.{fresh}
use Rattle.volume_jobs.proofs.table.Jobs.new.Goals as goal

pub returns-clause-settled : goal.returns-clause-settled
returns-clause-settled c = λ volume none free. fresh volume _ refl none free
