use Rattle.std.proofs.Common.{rules, inl, inr, refl}
use Rattle.show_commands.proofs.volumes.report_alone.Goals as goal

pub returns-in_err-report : goal.returns-in_err-report
returns-in_err-report g c = inr (record { given = c.in_ok-image.image; between = g.H.Host.history c.args.host.now; done = (c.in_ok-image.ensures, refl); after = inl (search rules) })

pub returns : goal.returns
returns g c = inr (record { given = c.in_ok-image.image; between = g.H.Host.history c.args.host.now; done = (c.in_ok-image.ensures, refl); after = inr (record { given = c.in_ok-report.report; between = g.H.Host.history c.report_on.new.host; done = search rules; after = c.print_report.ensures }) })
