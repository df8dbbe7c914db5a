use Rattle.std.proofs.Common.{rules, inr, refl}
use Rattle.change_commands.proofs.creating.create_tape.Goals as goal

pub returns : goal.returns
returns g c = inr (record { given = c.in_ok-file.file; between = g.H.Host.history c.args.host.now; done = (search rules, refl); after = rw c.deref.ensures.value at c.make_volume.ensures })
