use Rattle.bin_tape.proofs.Scan.{tape_has_no_fault}
use Rattle.bin_tape.proofs.laws.no_fault.Goals as goal

pub returns : goal.returns
returns c = tape_has_no_fault
