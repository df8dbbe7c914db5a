use Rattle.host_output.proofs.PrintLemmas.{printed_one, printed_fault}
use Rattle.host_output.proofs.printer.PrinterOutput.put.Goals as goal

pub invariant_of-self : goal.invariant_of-self
invariant_of-self g c = printed_one _ _ _ _ _ c.self.invariant c.if-is_some.ensures c.in-Ok.ensures

pub invariant_of-self-in-Err : goal.invariant_of-self-in-Err
invariant_of-self-in-Err g c = printed_fault _ _ _ _ _ _ c.self.invariant c.if-is_some.ensures c.in-Err.ensures
