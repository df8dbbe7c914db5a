use Rattle.std.proofs.Common.{◌∙◌, sym}
use Rattle.show_commands.proofs.VolumeLemmas.{file_alone, file_disk}
use Rattle.show_commands.proofs.volumes.report_file.Goals as goal

pub returns-in-One : goal.returns-in-One
returns-in-One g c = file_alone c.args.kind c.args.file.now _ c.in-One.layout _ _ _ _ _ (rw c.deref.ensures.value at (sym c.volumes_in.ensures ∙ c.in-One.is)) c.body_of.ensures c.report_alone.ensures

pub returns-in-Both : goal.returns-in-Both
returns-in-Both g c =
    file_disk c.args.kind c.args.file.now _ _ _ _ _ _ (rw c.deref.ensures.value at (sym c.volumes_in.ensures ∙ c.in-Both.is)) (c.deref-in-Both.ensures.value ∙ c.body_of-in-Both.ensures) c.report_disk.ensures
