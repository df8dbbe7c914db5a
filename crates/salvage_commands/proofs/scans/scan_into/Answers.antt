use Rattle.std.proofs.Common.{rules, inl, inr}
use Rattle.image_files.specs.Reading.{LooksAt}
use Rattle.image_files.proofs.WorkLemmas.{ends_with}
use Rattle.salvage_commands.proofs.scans.scan_into.Goals as goal

pub returns-in_err-scan : goal.returns-in_err-scan
returns-in_err-scan g c = inr (record { given = c.in_ok-image.image; between = g.H.Host.history c.look_at.new.host; done = c.in_ok-image.ensures.looks; after = inl (search rules) })

pub returns : goal.returns
returns g c = inr (record { given = c.in_ok-image.image; between = g.H.Host.history c.look_at.new.host; done = c.in_ok-image.ensures.looks; after = inr (record { given = c.in_ok-scan.scan; between = g.H.Host.history c.scan_of.new.host; done = search rules; after = search rules }) })

pub returns-in_err-image : goal.returns-in_err-image
returns-in_err-image g c = inl (ends_with (LooksAt c.args.form.now) _ _ _ _ c.in_err-image.ensures.looks c.from_residual.ensures)
