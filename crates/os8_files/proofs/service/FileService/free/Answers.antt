use Rattle.std.proofs.Common.{◌+◌, ap, sym, ◌∙◌}
use Rattle.os8_dir.specs.Files.{files_of, capacity_of}
use Rattle.os8_files.specs.Mounted.{MountState}
use Rattle.os8_files.specs.Service.{blocks_in_use}
use Rattle.os8_files.proofs.ListingLemmas.{used_of-read}
use Rattle.os8_files.proofs.service.FileService.free.Goals as goal

pub returns-clause-running : goal.returns-clause-running
returns-clause-running g c = λ running.
    let d = c.self.inside.directory in
    let blocks = g.S.BlockStore.contents c.self.inside.store in
    let kept = c.self.invariant.kept (ap (λ (m : MountState). m.stopped) c.self.view_is ∙ running) in
    ap (λ (m : MountState). c.free.result + blocks_in_use (files_of m.blocks)) (sym c.self.view_is)
    ∙ ap (λ n. c.free.result + n) (used_of-read blocks d (files_of blocks) c.self.invariant.volume.each (c.files_made.ensures blocks d kept) (c.sound_directory.ensures blocks d kept))
    ∙ c.free.ensures.files
    ∙ sym (c.directory_numbers.ensures.capacity blocks d kept)
    ∙ ap (λ (m : MountState). capacity_of m.blocks) c.self.view_is
