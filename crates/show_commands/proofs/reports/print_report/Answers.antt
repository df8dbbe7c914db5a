use Rattle.std.proofs.Common.{rules, inr, refl}
use Rattle.show_commands.proofs.reports.print_report.Goals as goal

pub returns : goal.returns
returns g c = inr (record { given = tt; between = g.H.Host.history c.print.new.host; done = search rules; after = (c.end_sound.ensures, refl) })
