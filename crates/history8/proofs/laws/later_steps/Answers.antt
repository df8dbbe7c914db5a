use Rattle.history8.proofs.StateLemmas.{later-steps, later-printed}
use Rattle.history8.proofs.laws.later_steps.Goals as goal

pub returns-clause-state : goal.returns-clause-state
returns-clause-state c = λ quick a b s. later-steps quick a b s

pub returns-clause-printed : goal.returns-clause-printed
returns-clause-printed c = λ quick a b s. later-printed quick a b s
