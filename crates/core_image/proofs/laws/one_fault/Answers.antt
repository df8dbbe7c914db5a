use Rattle.core_image.proofs.Scan.{fault_is_one}
use Rattle.core_image.proofs.laws.one_fault.Goals as goal

pub returns : goal.returns
returns c = fault_is_one
