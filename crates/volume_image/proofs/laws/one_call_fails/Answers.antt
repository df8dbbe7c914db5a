use Rattle.volume_image.proofs.FailingCalls.{no_call_fails, one_call_fails}
use Rattle.volume_image.proofs.laws.one_call_fails.Goals as goal

pub returns-clause-one : goal.returns-clause-one
returns-clause-one c = one_call_fails

pub returns-clause-none : goal.returns-clause-none
returns-clause-none c = no_call_fails
