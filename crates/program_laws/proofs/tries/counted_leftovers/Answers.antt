use Rattle.program_laws.proofs.TryLemmas.{counts-left}
use Rattle.program_laws.proofs.tries.counted_leftovers.Goals as goal

pub returns : goal.returns
returns c = counts-left
