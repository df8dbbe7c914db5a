use Rattle.std.proofs.Common.{◌≡◌, ◌<◌, ◌≤◌, false, All, List, length, Ok, refl, ap, sym, subst, ◌∙◌, arith}
use Rattle.std.proofs.lemmas.Result.{err_from_is_err_and, IfOk-at_ok}
use Rattle.os8_dir.specs.declared.entries.DirEntry.{DirEntry}
use Rattle.os8_dir.specs.Entries.{DirectoryState, IsNamed}
use Rattle.os8_dir.specs.Reading.{directory_of}
use Rattle.std.specs.FinMap.{insert}
use Rattle.volume_image.specs.Volume.{IsBlock}
use Rattle.os8_dir.specs.Found.{IsDirectory, rooms_at, limit}
use Rattle.os8_dir.specs.Files.{files_of, limit_of, of_directory}
use Rattle.os8_dir.specs.Changes.{with_new_file, directory_with, new_file}
use Rattle.os8_files.specs.Mounted.{MountState, NewFile, IsBegun}
use Rattle.os8_files.specs.Calls.{IsFree, StopsInPart, entries_with, new_held}
use Rattle.os8_files.specs.Steps.{PlacesFile}
use Rattle.os8_files.specs.WriteSteps.{HasDirectory}
use Rattle.os8_files.proofs.CallLemmas.{by-rewrite}
use Rattle.os8_files.proofs.BoundLemmas.{IsMade, is-over, placed-made}
use Rattle.os8_files.proofs.PlaceLemmas.{ok-same, placed-file}
use Rattle.os8_files.proofs.FailedLemmas.{place-failed}
use Rattle.os8_files.proofs.service.FileService.place.Goals as goal

pub returns-then-entries-limit : goal.returns-then-entries-limit
returns-then-entries-limit g c =
    let blocks = g.S.BlockStore.contents c.self.inside.store in
    let old = c.args.self.now in
    let d = c.self.inside.directory in
    let name = c.args.name in
    let b = c.args.begun in
    let info = c.args.info.now in
    let same : old.blocks ≡ blocks = ap (λ (m : MountState). m.blocks) (sym c.self.view_is) in
    let running : c.self.inside.stopped ≡ false = ap (λ (m : MountState). m.stopped) c.self.view_is ∙ c.requires.begun.ready.running in
    let kept : directory_of old.blocks ≡ Ok d = subst (λ bs. directory_of bs ≡ Ok d) (sym same) (c.self.invariant.kept running) in
    let is = c.sound_directory.ensures old.blocks d kept in
    let lies : IsBegun d b = subst (λ (x : DirectoryState). IsBegun x b) (ok-same (directory_of old.blocks) c.requires.begun.directory d c.requires.begun.read kept) c.requires.begun.lies in
    let list : c.in_ok-directory.directory ≡ directory_with d (with_new_file d.first (new_file d name info b.place b.blocks_written) d.entries) = (IfOk-at_ok _ c.in_ok-directory.ensures c.with_new_file-placed.ensures.list) ∙ ap (λ (x : NewFile). directory_with d (with_new_file d.first (new_file d name info x.place x.blocks_written) d.entries)) c.begun.view_is in
    let some : 0 < b.blocks_written = omega (arith, c.if-begun-eq0.false, ap (λ (x : NewFile). x.blocks_written) c.begun.view_is) in
    let free : IsFree old name = sym c.is_held.ensures ∙ c.if-is_held.false in
    let full : limit c.in_ok-directory.directory < length c.in_ok-directory.directory.entries = omega (arith, ap (λ (es : List DirEntry). length es) c.entries.ensures.list, c.limit.ensures.value, c.if-entries-limit.true) in
    let more : limit d < length (with_new_file d.first (new_file d name info b.place b.blocks_written) d.entries) = subst (λ (x : DirectoryState). limit x < length x.entries) list full in
    let named : limit d < length (with_new_file d.first (new_file d b.name info b.place b.blocks_written) d.entries) = subst (λ n. limit d < length (with_new_file d.first (new_file d n info b.place b.blocks_written) d.entries)) (sym c.requires.names) more in
    let lain = c.rooms.ensures.lie b.place b.room b.place b.blocks_written (rooms_at d.first d.entries) lies.room (omega arith) (omega (arith, lies.most)) in
    let made : IsMade old.blocks d (files_of old.blocks) = c.files_made.ensures old.blocks d kept in
    let next = c.file_placed.ensures.directory (length old.blocks) name b.place b.blocks_written info d is (subst IsNamed c.requires.names lies.named) some in
    let each : All IsBlock old.blocks = subst (λ bs. All IsBlock bs) (sym same) c.self.invariant.volume.each in
    let after = placed-made c.files_found.ensures c.file_placed.ensures.there c.file_placed.ensures.others old d name b info kept is some lain in
    let over = is-over c.directory_numbers.ensures.limit c.directory_numbers.ensures.above c.entry_counts.ensures.entries c.entry_counts.ensures.empties c.entry_counts.ensures.one
    old.blocks d (with_new_file d.first (new_file d name info b.place b.blocks_written) d.entries) (insert (files_of old.blocks) name (new_held old b info)) each kept made is next after
    (c.file_placed.ensures.entries d.first b.room (new_file d name info b.place b.blocks_written) d.entries some lies.most lies.room) more in
    (some, free, omega (arith, named, c.directory_numbers.ensures.limit old.blocks d kept, ap (of_directory (λ (x : DirectoryState). length (with_new_file x.first (new_file x b.name info b.place b.blocks_written) x.entries))) kept), over, refl)

pub rewrite-requires-clause-sound : goal.rewrite-requires-clause-sound
rewrite-requires-clause-sound g c =
    let blocks = g.S.BlockStore.contents c.self.inside.store in
    let old = c.args.self.now in
    let d = c.self.inside.directory in
    let name = c.args.name in
    let b = c.args.begun in
    let info = c.args.info.now in
    let same : old.blocks ≡ blocks = ap (λ (m : MountState). m.blocks) (sym c.self.view_is) in
    let running : c.self.inside.stopped ≡ false = ap (λ (m : MountState). m.stopped) c.self.view_is ∙ c.requires.begun.ready.running in
    let kept : directory_of old.blocks ≡ Ok d = subst (λ bs. directory_of bs ≡ Ok d) (sym same) (c.self.invariant.kept running) in
    let is = c.sound_directory.ensures old.blocks d kept in
    let lies : IsBegun d b = subst (λ (x : DirectoryState). IsBegun x b) (ok-same (directory_of old.blocks) c.requires.begun.directory d c.requires.begun.read kept) c.requires.begun.lies in
    let list : c.in_ok-directory.directory ≡ directory_with d (with_new_file d.first (new_file d name info b.place b.blocks_written) d.entries) = (IfOk-at_ok _ c.in_ok-directory.ensures c.with_new_file-placed.ensures.list) ∙ ap (λ (x : NewFile). directory_with d (with_new_file d.first (new_file d name info x.place x.blocks_written) d.entries)) c.begun.view_is in
    let some : 0 < b.blocks_written = omega (arith, c.if-begun-eq0.false, ap (λ (x : NewFile). x.blocks_written) c.begun.view_is) in
    subst (λ (x : DirectoryState). IsDirectory (length old.blocks) x) (sym list) (c.file_placed.ensures.directory (length old.blocks) name b.place b.blocks_written info d is (subst IsNamed c.requires.names lies.named) some)

pub returns : goal.returns
returns g c =
    let blocks = g.S.BlockStore.contents c.self.inside.store in
    let old = c.args.self.now in
    let d = c.self.inside.directory in
    let name = c.args.name in
    let b = c.args.begun in
    let info = c.args.info.now in
    let same : old.blocks ≡ blocks = ap (λ (m : MountState). m.blocks) (sym c.self.view_is) in
    let running : c.self.inside.stopped ≡ false = ap (λ (m : MountState). m.stopped) c.self.view_is ∙ c.requires.begun.ready.running in
    let kept : directory_of old.blocks ≡ Ok d = subst (λ bs. directory_of bs ≡ Ok d) (sym same) (c.self.invariant.kept running) in
    let is = c.sound_directory.ensures old.blocks d kept in
    let lies : IsBegun d b = subst (λ (x : DirectoryState). IsBegun x b) (ok-same (directory_of old.blocks) c.requires.begun.directory d c.requires.begun.read kept) c.requires.begun.lies in
    let list : c.in_ok-directory.directory ≡ directory_with d (with_new_file d.first (new_file d name info b.place b.blocks_written) d.entries) = (IfOk-at_ok _ c.in_ok-directory.ensures c.with_new_file-placed.ensures.list) ∙ ap (λ (x : NewFile). directory_with d (with_new_file d.first (new_file d name info x.place x.blocks_written) d.entries)) c.begun.view_is in
    let some : 0 < b.blocks_written = omega (arith, c.if-begun-eq0.false, ap (λ (x : NewFile). x.blocks_written) c.begun.view_is) in
    let free : IsFree old name = sym c.is_held.ensures ∙ c.if-is_held.false in
    let room : length c.in_ok-directory.directory.entries ≤ limit c.in_ok-directory.directory = omega (arith, ap (λ (es : List DirEntry). length es) c.entries.ensures.list, c.limit.ensures.value, c.if-entries-limit.false) in
    let less : length (with_new_file d.first (new_file d name info b.place b.blocks_written) d.entries) ≤ limit d = subst (λ (x : DirectoryState). length x.entries ≤ limit x) list room in
    let named : length (with_new_file d.first (new_file d b.name info b.place b.blocks_written) d.entries) ≤ limit d = subst (λ n. length (with_new_file d.first (new_file d n info b.place b.blocks_written) d.entries) ≤ limit d) (sym c.requires.names) less in
    let fits : entries_with b info old.blocks ≤ limit_of old.blocks = omega (arith, named, c.directory_numbers.ensures.limit old.blocks d kept, ap (of_directory (λ (x : DirectoryState). length (with_new_file x.first (new_file x b.name info b.place b.blocks_written) x.entries))) kept) in
    let lain = c.rooms.ensures.lie b.place b.room b.place b.blocks_written (rooms_at d.first d.entries) lies.room (omega arith) (omega (arith, lies.most)) in
    by-rewrite old c.rewrite.new.self c.in_ok-directory.directory c.rewrite.result (λ r. PlacesFile old name b info r c.rewrite.new.self) c.rewrite.ensures
    (λ done has. placed-file c.files_found.ensures c.rooms.ensures.lie c.directory_numbers.ensures.limit c.directory_numbers.ensures.capacity c.directory_numbers.ensures.above
    c.file_placed.ensures.there c.file_placed.ensures.others c.file_placed.ensures.covered c.file_placed.ensures.tight
    old c.rewrite.new.self d name b info c.requires.begun.ready c.requires.names kept is lies some free fits (subst (λ (x : DirectoryState). HasDirectory old x c.rewrite.new.self) list has))
    (λ failed keeps part. place-failed old c.rewrite.new.self d b info some (subst (IsFree old) (sym c.requires.names) free) fits kept is (c.files_made.ensures old.blocks d kept)
    (c.file_placed.ensures.directory (length old.blocks) b.name b.place b.blocks_written info d is lies.named some)
    (placed-made c.files_found.ensures c.file_placed.ensures.there c.file_placed.ensures.others old d b.name b info kept is some lain) failed keeps (subst (λ n. StopsInPart old.blocks c.rewrite.new.self.blocks (directory_with d (with_new_file d.first (new_file d n info b.place b.blocks_written) d.entries)) old.writes c.rewrite.new.self.writes) (sym c.requires.names) (subst (λ (x : DirectoryState). StopsInPart old.blocks c.rewrite.new.self.blocks x old.writes c.rewrite.new.self.writes) list part)))

pub returns-in_err-directory : goal.returns-in_err-directory
returns-in_err-directory g c =
    let e = err_from_is_err_and c.from_residual.result c.from_residual.ensures.1 in
    rw (e.1, e.2) (omega (arith, c.if-begun-eq0.false, ap (λ (x : NewFile). x.blocks_written) c.begun.view_is), sym c.is_held.ensures ∙ c.if-is_held.false, refl)

pub returns-then-is_held : goal.returns-then-is_held
returns-then-is_held g c = (omega (arith, c.if-begun-eq0.false, ap (λ (x : NewFile). x.blocks_written) c.begun.view_is), refl, sym c.is_held.ensures ∙ c.if-is_held.true, refl)
