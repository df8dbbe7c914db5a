use Rattle.std.proofs.Common.{inr, refl}
use Rattle.index_commands.proofs.found.print_groups.Goals as goal

pub returns : goal.returns
returns g c = inr (record { given = c.in_ok-same.same; between = g.H.Host.history c.args.host.now; done = (c.in_ok-same.ensures, refl); after = rw c.deref.ensures.value at c.print.ensures })
