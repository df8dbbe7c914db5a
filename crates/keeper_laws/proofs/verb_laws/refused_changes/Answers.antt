use Rattle.keeper_laws.proofs.CopyLemmas.{copies-leave}
use Rattle.keeper_laws.proofs.RefusedLemmas.{deletes-leave, renames-leave, squeezes-leave}
use Rattle.keeper_laws.proofs.verb_laws.refused_changes.Goals as goal

pub returns : goal.returns
returns c = record { puts = c.refused_puts.ensures; deletes = deletes-leave; copies = copies-leave; renames = renames-leave; squeezes = squeezes-leave }
