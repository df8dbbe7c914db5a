use Rattle.std.proofs.Common.{inr}
use Rattle.run_commands.proofs.profiles.profile_tape.Goals as goal

pub returns : goal.returns
returns g c = inr (record { given = c.in_ok-run.run'; between = g.H.Host.history c.read_run.new.host; done = c.in_ok-run.ensures; after = rw c.unwrap_or.ensures at c.profile_run.ensures })
