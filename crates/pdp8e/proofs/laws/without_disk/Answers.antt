use Rattle.std.proofs.Common.{ap}
use Rattle.cpu8.specs.declared.outcomes.Stepped.{Stepped}
use Rattle.pdp8e.specs.State.{Pdp8e}
use Rattle.pdp8e.proofs.AloneLemmas.{step_alone, run_alone}
use Rattle.pdp8e.proofs.laws.without_disk.Goals as goal

pub returns-clause-step : goal.returns-clause-step
returns-clause-step c = λ m is still other. ap (λ (r : Pdp8e × Stepped). r.0) (step_alone c.request_stays.ensures m is still other)

pub returns-clause-answer : goal.returns-clause-answer
returns-clause-answer c = λ m is still other. ap (λ (r : Pdp8e × Stepped). r.1) (step_alone c.request_stays.ensures m is still other)

pub returns-clause-run : goal.returns-clause-run
returns-clause-run c = run_alone c.request_stays.ensures
