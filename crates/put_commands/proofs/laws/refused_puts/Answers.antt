use Rattle.put_commands.proofs.PutLemmas.{puts-leave}
use Rattle.put_commands.proofs.laws.refused_puts.Goals as goal

pub returns : goal.returns
returns c = puts-leave
