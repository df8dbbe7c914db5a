use Rattle.std.proofs.Common.{inr}
use Rattle.run_commands.proofs.drives8e.trace_8e.Goals as goal

pub returns-in-Ok : goal.returns-in-Ok
returns-in-Ok g c = inr (record { given = c.in-Ok.station; between = g.H.Host.history c.open_station.new.host; done = c.in-Ok.ensures; after = rw (c.deref.ensures.value, c.deref-in-Ok.ensures.value) at c.trace_station.ensures })
