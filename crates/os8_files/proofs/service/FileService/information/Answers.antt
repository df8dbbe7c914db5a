use Rattle.std.proofs.Common.{ap, ◌∙◌}
use Rattle.std.specs.FinMap.{get}
use Rattle.os8_dir.specs.Files.{files_of}
use Rattle.os8_files.specs.Mounted.{MountState}
use Rattle.os8_files.specs.Service.{information_of}
use Rattle.os8_files.proofs.InformationLemmas.{information-is}
use Rattle.os8_files.proofs.service.FileService.information.Goals as goal

pub returns-clause-running : goal.returns-clause-running
returns-clause-running g c = λ running.
    let d = c.self.inside.directory in
    let blocks = g.S.BlockStore.contents c.self.inside.store in
    let name = c.args.name.now in
    let kept = c.self.invariant.kept (ap (λ (m : MountState). m.stopped) c.self.view_is ∙ running) in
    c.information.ensures ∙ information-is c.files_found.ensures c.file_information.ensures blocks d name kept (c.sound_directory.ensures blocks d kept)
    ∙ ap (λ (m : MountState). information_of (get (files_of m.blocks) name)) c.self.view_is
