use Rattle.std.proofs.Common.{◌∙◌, ap}
use Rattle.drive_files.specs.Saving.{earlier}
use Rattle.drive_files.specs.Devices.{paper_end}
use Rattle.drive_files.proofs.devices.save_paper.Goals as goal

pub returns-in-Some : goal.returns-in-Some
returns-in-Some g c = rw c.in-Some.is (record {
  written = c.write_file-written.result;
  writes = rw (c.as_str-path.ensures.value, c.as_str-name.ensures.value, c.bytes.ensures.bytes) at c.write_file-written.ensures;
  is = c.earlier.ensures ∙ ap (λ r. earlier c.write_file-written.result r) (c.paper_end.ensures ∙ ap (λ b. paper_end b) c.is_whole.ensures);
})
