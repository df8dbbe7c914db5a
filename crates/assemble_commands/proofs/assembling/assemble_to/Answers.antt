use Rattle.std.proofs.Common.{inr}
use Rattle.assemble_commands.proofs.assembling.assemble_to.Goals as goal

pub returns : goal.returns
returns g c = inr (record { given = c.in_ok-tape.tape; between = g.H.Host.history c.list_tape.new.host; done = c.in_ok-tape.ensures; after = rw c.deref.ensures.value at c.write_tape.ensures })
