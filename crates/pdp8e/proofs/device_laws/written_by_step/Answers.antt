use Rattle.pdp8e.proofs.WriterLemmas.{punched_by_step, printed_by_step}
use Rattle.pdp8e.proofs.device_laws.written_by_step.Goals as goal

pub returns-clause-punch : goal.returns-clause-punch
returns-clause-punch c = punched_by_step

pub returns-clause-printer : goal.returns-clause-printer
returns-clause-printer c = printed_by_step
