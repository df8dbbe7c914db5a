use Rattle.std.proofs.Common.{inl, inr, refl}
use Rattle.show_commands.specs.Volumes.{ReportsBoth}
use Rattle.image_files.proofs.WorkLemmas.{ends_with}
use Rattle.show_commands.proofs.volumes.report_disk.Goals as goal

pub returns-in_err-is_sound : goal.returns-in_err-is_sound
returns-in_err-is_sound g c = inl (ends_with (ReportsBoth c.args.kind c.args.file.now c.args.body.now) _ _ _ _ c.in_err-is_sound.ensures c.from_residual.ensures)

pub returns : goal.returns
returns g c = inr (record { given = c.in_ok-is_sound.is_sound; between = g.H.Host.history c.report_both.new.host; done = c.in_ok-is_sound.ensures; after = (c.end_sound.ensures, refl) })
