use Rattle.std.proofs.Common.{inr, refl}
use Rattle.show_commands.proofs.volumes.report_refusal.Goals as goal

pub returns : goal.returns
returns g c = inr (record { given = c.in_ok-report.report; between = g.H.Host.history c.args.host.now; done = (c.in_ok-report.ensures, refl); after = c.print_named.ensures })
