use Rattle.std.proofs.Common.{inr, refl, rules}
use Rattle.assemble_commands.proofs.sources.read_member.Goals as goal

pub returns : goal.returns
returns g c = inr (record { given = c.in_ok-asked.asked; between = g.H.Host.history c.args.host.now; done = (c.in_ok-asked.ensures, refl); after = search rules })
