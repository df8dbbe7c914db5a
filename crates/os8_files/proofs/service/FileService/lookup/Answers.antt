use Rattle.std.proofs.Common.{ap, sym, refl, ◌∙◌}
use Rattle.std.specs.FinMap.{get}
use Rattle.os8_dir.specs.Found.{files_at}
use Rattle.os8_dir.specs.Files.{files_of}
use Rattle.os8_files.specs.Mounted.{MountState}
use Rattle.os8_files.specs.Service.{blocks_of}
use Rattle.os8_files.proofs.LookupLemmas.{told, blocks_found}
use Rattle.os8_files.proofs.service.FileService.lookup.Goals as goal

pub returns-in-Some-clause-running : goal.returns-in-Some-clause-running
returns-in-Some-clause-running g c = λ running.
    let d = c.self.inside.directory in
    let blocks = g.S.BlockStore.contents c.self.inside.store in
    let kept = c.self.invariant.kept (ap (λ (m : MountState). m.stopped) c.self.view_is ∙ running) in
    ap told (sym c.in-Some.is ∙ c.find.ensures)
    ∙ blocks_found blocks d.info c.args.name.now d.first (files_at d.first d.entries) c.self.invariant.volume.each (c.sound_directory.ensures blocks d kept).apart _ refl
    ∙ ap blocks_of (sym (c.files_found.ensures blocks d c.args.name.now kept))
    ∙ ap (λ (m : MountState). blocks_of (get (files_of m.blocks) c.args.name.now)) c.self.view_is

pub returns-in-None-clause-running : goal.returns-in-None-clause-running
returns-in-None-clause-running g c = λ running.
    let d = c.self.inside.directory in
    let blocks = g.S.BlockStore.contents c.self.inside.store in
    let kept = c.self.invariant.kept (ap (λ (m : MountState). m.stopped) c.self.view_is ∙ running) in
    ap told (sym c.in-None.is ∙ c.find.ensures)
    ∙ blocks_found blocks d.info c.args.name.now d.first (files_at d.first d.entries) c.self.invariant.volume.each (c.sound_directory.ensures blocks d kept).apart _ refl
    ∙ ap blocks_of (sym (c.files_found.ensures blocks d c.args.name.now kept))
    ∙ ap (λ (m : MountState). blocks_of (get (files_of m.blocks) c.args.name.now)) c.self.view_is
