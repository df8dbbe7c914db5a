use Rattle.run_commands.proofs.machines8i.run_onto.Goals as goal

pub returns-clause-runs : goal.returns-clause-runs
returns-clause-runs g c = rw (c.finish-host.ensures.host) (rw (c.form_of.ensures, c.input_of.ensures, c.unwrap_or-steps.ensures, c.new-printer.ensures) at c.run-done.ensures.runs)
