use Rattle.cpu8.proofs.RunLemmas.{subroutine_pc, subroutine_field}
use Rattle.cpu8.proofs.laws.subroutine.Goals as goal

pub returns : goal.returns
returns c = record { pc = subroutine_pc; field = subroutine_field }
