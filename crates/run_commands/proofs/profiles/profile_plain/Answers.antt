use Rattle.std.proofs.Common.{inr, refl}
use Rattle.run_commands.proofs.profiles.profile_plain.Goals as goal

pub returns : goal.returns
returns g c = inr (record { given = c.in_ok-text.text; between = g.H.Host.history c.args.host.now; done = (c.in_ok-text.ensures, refl); after = rw c.deref.ensures.value at c.print.ensures })
