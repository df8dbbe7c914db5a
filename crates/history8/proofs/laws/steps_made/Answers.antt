use Rattle.history8.proofs.StateLemmas.{after-steps, printed-steps}
use Rattle.history8.proofs.laws.steps_made.Goals as goal

pub returns-clause-state : goal.returns-clause-state
returns-clause-state c = λ quick k changes first. after-steps quick k changes first

pub returns-clause-printed : goal.returns-clause-printed
returns-clause-printed c = λ quick k changes first. printed-steps quick k changes first
