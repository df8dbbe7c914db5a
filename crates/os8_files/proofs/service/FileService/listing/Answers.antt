use Rattle.std.proofs.Common.{◌≡◌, false, ap, sym, subst, ◌∙◌}
use Rattle.os8_dir.specs.Files.{files_of}
use Rattle.os8_files.specs.Mounted.{MountState}
use Rattle.os8_files.specs.Service.{lengths_of}
use Rattle.os8_files.specs.LengthSteps.{lengths_in}
use Rattle.os8_files.proofs.ListingLemmas.{lengths_of-read}
use Rattle.os8_files.proofs.service.FileService.listing.Goals as goal

pub returns : goal.returns
returns g c =
    let d = c.self.inside.directory in
    let blocks = g.S.BlockStore.contents c.self.inside.store in
    let kept = c.self.invariant.kept c.if-self.false in
    subst (λ (m : MountState). (m.stopped ≡ false) × (c.in_ok-list.list.items ≡ lengths_of (files_of m.blocks))) c.self.view_is
    (c.if-self.false, c.in_ok-list.ensures ∙ ap lengths_in c.entries.ensures.list ∙ sym (lengths_of-read blocks d (files_of blocks) c.self.invariant.volume.each (c.files_made.ensures blocks d kept) (c.sound_directory.ensures blocks d kept)))
