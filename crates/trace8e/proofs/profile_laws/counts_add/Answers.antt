use Rattle.trace8e.proofs.CountLemmas.{counts-add}
use Rattle.trace8e.proofs.profile_laws.counts_add.Goals as goal

pub returns : goal.returns
returns c = λ a b t cell. counts-add c.later_steps.ensures.terminal a b t cell
