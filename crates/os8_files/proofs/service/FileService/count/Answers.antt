use Rattle.std.proofs.Common.{◌≡◌, ◌≤◌, ap, subst, sym, arith, ◌∙◌}
use Rattle.os8_dir.specs.Files.{files_of, above_of}
use Rattle.os8_files.specs.Mounted.{MountState}
use Rattle.os8_files.specs.Service.{count_of}
use Rattle.os8_files.proofs.ListingLemmas.{count_of-read, above-few}
use Rattle.os8_files.proofs.service.FileService.count.Goals as goal

pub returns-clause-running : goal.returns-clause-running
returns-clause-running g c = λ running.
    let d = c.self.inside.directory in
    let blocks = g.S.BlockStore.contents c.self.inside.store in
    let kept = c.self.invariant.kept (ap (λ (m : MountState). m.stopped) c.self.view_is ∙ running) in
    subst (λ (m : MountState). c.count.result ≡ count_of (files_of m.blocks)) c.self.view_is
    (c.count.ensures.value ∙ sym (count_of-read blocks d (files_of blocks) c.self.invariant.volume.each (c.files_made.ensures blocks d kept) (c.sound_directory.ensures blocks d kept)))

pub returns-clause-above : goal.returns-clause-above
returns-clause-above g c = λ running.
    let d = c.self.inside.directory in
    let blocks = g.S.BlockStore.contents c.self.inside.store in
    let kept = c.self.invariant.kept (ap (λ (m : MountState). m.stopped) c.self.view_is ∙ running) in
    subst (λ (m : MountState). above_of m.blocks ≤ c.count.result) c.self.view_is
    (omega (arith, c.count.ensures.value, c.directory_numbers.ensures.above blocks d kept, above-few d.entries))
