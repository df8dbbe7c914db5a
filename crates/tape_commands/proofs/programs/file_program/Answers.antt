use Rattle.std.proofs.Common.{inr, refl}
use Rattle.tape_commands.proofs.programs.file_program.Goals as goal

pub returns : goal.returns
returns g c = inr (record { given = c.in_ok-frames.frames; between = g.H.Host.history c.look_file.new.host; done = c.in_ok-frames.ensures; after = (c.tape_program.ensures, refl) })
