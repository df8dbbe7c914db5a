use Rattle.std.proofs.Common.{◌≡◌, ◌∙◌, ◌++◌, take, drop, ℕ, List, ap, rules, subst, length, slice_index}
use Rattle.disk_layouts.specs.Files.{Disk, HasLaid}
use Rattle.disk_layouts.specs.Disks.{image_size}
use Rattle.disk_layouts.proofs.FileLemmas.{IsWritten, kept_lay, laid_lay}
use Rattle.disk_layouts.proofs.files.DiskFile.lay.Goals as goal

pub invariant_of-self : goal.invariant_of-self
invariant_of-self c =
    let inside = c.self.inside in
    let old = inside.bytes.items in
    let new = c.put_volume.new.file in
    let image = c.args.image.now in
    let same : length new ≡ length old = search rules in
    let room : length new ≡ inside.bytes.len = search rules in
    let fits : length image ≡ image_size inside.layout = search rules in
    let written : IsWritten inside.layout old image new = record { size = same; fits = fits; volume = c.put_volume.ensures.volume; others = λ at out. c.put_volume.ensures.others at out ∙ ap (λ (l : List ℕ). slice_index l at) c.as_mut_slice.ensures.value } in
    kept_lay inside.layout old image new inside.bytes.len inside.length c.used_blocks-used.result c.needed_bytes.result c.max-self-inside.result
    room c.self.invariant written c.used_blocks-used.ensures.used c.used_blocks-used.ensures.most c.needed_bytes.ensures c.max-self-inside.ensures

pub returns : goal.returns
returns c =
    let inside = c.self.inside in
    let old = inside.bytes.items in
    let new = c.put_volume.new.file in
    let image = c.args.image.now in
    let same : length new ≡ length old = search rules in
    let room : length new ≡ inside.bytes.len = search rules in
    let fits : length image ≡ image_size inside.layout = search rules in
    let written : IsWritten inside.layout old image new = record { size = same; fits = fits; volume = c.put_volume.ensures.volume; others = λ at out. c.put_volume.ensures.others at out ∙ ap (λ (l : List ℕ). slice_index l at) c.as_mut_slice.ensures.value } in
    subst (λ (d : Disk). HasLaid d image (record { layout = inside.layout; bytes = take c.max-self-inside.result (take inside.bytes.len (new ++ drop (length new) old)) })) c.self.view_is
    (laid_lay inside.layout old image new inside.bytes.len inside.length c.used_blocks-used.result c.needed_bytes.result c.max-self-inside.result
    room c.self.invariant written c.used_blocks-used.ensures.used c.used_blocks-used.ensures.most c.needed_bytes.ensures c.max-self-inside.ensures)
