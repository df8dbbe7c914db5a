use Rattle.host_output.proofs.PrintLemmas.{printed_none}
use Rattle.host_output.proofs.printer.Printer.new.Goals as goal

pub invariant_of-result : goal.invariant_of-result
invariant_of-result g c = printed_none _ _ c.requires
