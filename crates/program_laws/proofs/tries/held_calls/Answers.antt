use Rattle.program_laws.proofs.TryLemmas.{has-held, hold-keeps}
use Rattle.program_laws.proofs.tries.held_calls.Goals as goal

pub returns-clause-calls : goal.returns-clause-calls
returns-clause-calls c = has-held

pub returns-clause-files : goal.returns-clause-files
returns-clause-files c = hold-keeps
