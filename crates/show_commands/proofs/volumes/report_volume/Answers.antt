use Rattle.std.proofs.Common.{inl, inr}
use Rattle.show_commands.specs.Volumes.{ReportsAt}
use Rattle.image_files.proofs.WorkLemmas.{ends_with}
use Rattle.show_commands.proofs.volumes.report_volume.Goals as goal

pub returns-in_err-report : goal.returns-in_err-report
returns-in_err-report g c = inl (ends_with (ReportsAt c.args.kind c.args.layout c.args.body.items) _ _ _ _ c.in_err-report.ensures c.from_residual.ensures)

pub returns : goal.returns
returns g c = inr (record { given = c.in_ok-report.report; between = g.H.Host.history c.report_at.new.host; done = c.in_ok-report.ensures; after = c.print_named.ensures })
