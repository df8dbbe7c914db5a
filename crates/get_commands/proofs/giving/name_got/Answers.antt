use Rattle.std.proofs.Common.{inr, refl}
use Rattle.get_commands.proofs.giving.name_got.Goals as goal

pub returns : goal.returns
returns g c = inr (record { given = c.in_ok-name.name; between = g.H.Host.history c.args.host.now; done = (c.in_ok-name.ensures, refl); after = rw c.as_str.ensures.value at c.tell_got.ensures })
