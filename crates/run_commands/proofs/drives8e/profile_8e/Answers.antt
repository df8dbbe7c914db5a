use Rattle.std.proofs.Common.{inl, inr}
use Rattle.image_files.proofs.WorkLemmas.{ends_with}
use Rattle.run_commands.specs.Drives8e.{OpensStation}
use Rattle.run_commands.proofs.drives8e.profile_8e.Goals as goal

pub returns : goal.returns
returns g c = inr (record { given = c.in_ok-station.station; between = g.H.Host.history c.open_station.new.host; done = c.in_ok-station.ensures; after = rw (c.deref.ensures.value, c.deref-2.ensures.value) at c.profile_station.ensures })

pub returns-in_err-station : goal.returns-in_err-station
returns-in_err-station g c = inl (ends_with (OpensStation c.args.form.now c.args.asked.now c.args.run.program) (g.H.Host.history c.args.host.now) _ _ _ c.in_err-station.ensures c.from_residual.ensures)
