use Rattle.std.proofs.Common.{inr, refl}
use Rattle.get_commands.proofs.texts.refuse_wish.Goals as goal

pub returns : goal.returns
returns g c = inr (record { given = c.in_ok-line.line; between = g.H.Host.history c.args.host.now; done = (c.in_ok-line.ensures, refl); after = (refl, rw c.deref.ensures.value at c.tell_line.ensures) })
