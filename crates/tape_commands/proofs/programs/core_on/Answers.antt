use Rattle.std.proofs.Common.{inr, refl}
use Rattle.tape_commands.proofs.programs.core_on.Goals as goal

pub returns : goal.returns
returns g c = inr (record { given = c.in_ok-frames.frames; between = g.H.Host.history c.show_file.new.host; done = c.in_ok-frames.ensures; after = (rw c.deref.ensures.value at c.core_program.ensures, refl) })
