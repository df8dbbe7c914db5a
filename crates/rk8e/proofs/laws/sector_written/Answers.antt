use Rattle.rk8e.proofs.LawLemmas.{written_on}
use Rattle.rk8e.proofs.laws.sector_written.Goals as goal

pub returns : goal.returns
returns c = written_on
