use Rattle.host_output.proofs.printer.Printer.finish.Goals as goal

pub returns-clause-prints : goal.returns-clause-prints
returns-clause-prints g c = rw (← c.self.view_is) c.self.invariant
