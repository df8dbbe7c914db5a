use Rattle.rim_tape.proofs.Scan.{fault_is_one}
use Rattle.rim_tape.proofs.laws.one_fault.Goals as goal

pub returns : goal.returns
returns c = fault_is_one
