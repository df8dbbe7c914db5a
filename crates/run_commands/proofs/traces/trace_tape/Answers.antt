use Rattle.std.proofs.Common.{inr}
use Rattle.run_commands.proofs.traces.trace_tape.Goals as goal

pub returns-in-Ok : goal.returns-in-Ok
returns-in-Ok g c = inr (record { given = c.in-Ok.run'; between = g.H.Host.history c.read_run.new.host; done = c.in-Ok.ensures; after = rw c.unwrap_or.ensures at c.trace_run.ensures })
