use Rattle.std.proofs.Common.{inl, inr}
use Rattle.image_files.specs.Reading.{LooksImage}
use Rattle.image_files.proofs.WorkLemmas.{ends_with}
use Rattle.show_commands.proofs.volumes.report_one.Goals as goal

pub returns-in_err-bytes : goal.returns-in_err-bytes
returns-in_err-bytes g c = inl (ends_with (LooksImage c.args.reading c.args.file.now) (g.H.Host.history c.args.host.now) (g.H.Host.history c.look_image.new.host) _ c.in_err-bytes.field-0.0 c.in_err-bytes.ensures.looks c.from_residual.ensures)

pub returns : goal.returns
returns g c = inr (record { given = c.in_ok-bytes.bytes; between = g.H.Host.history c.look_image.new.host; done = c.in_ok-bytes.ensures.looks; after = c.report_bytes.ensures })
