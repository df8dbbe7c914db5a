use Rattle.pdp8e.proofs.PartLemmas.{state_parts, answer_parts, absence_parts}
use Rattle.pdp8e.proofs.teletype.make_parts.Goals as goal

pub returns-clause-state : goal.returns-clause-state
returns-clause-state c = state_parts c.args.machine.now c.begin_step-transfer.new.self c.finish_step-did.new.self c.begin_step-transfer.ensures.state c.finish_step-did.ensures.state

pub returns-clause-did : goal.returns-clause-did
returns-clause-did c = answer_parts c.args.machine.now c.begin_step-transfer.new.self c.finish_step-did.result c.begin_step-transfer.ensures.state c.finish_step-did.ensures.answer

pub returns-clause-absence : goal.returns-clause-absence
returns-clause-absence c = absence_parts c.args.machine.now c.begin_step-transfer.new.self c.absence-absence.result c.begin_step-transfer.ensures.state c.absence-absence.ensures
