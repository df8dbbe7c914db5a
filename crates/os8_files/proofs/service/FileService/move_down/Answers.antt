use Rattle.std.proofs.Common.{All, ◌≡◌, ℕ, ◌-◌, ◌<◌, false, List, length, take, drop, Some, Ok, refl, ap, sym, subst, ◌∙◌, arith}
use Rattle.std.proofs.lemmas.Result.{err_from_is_err_and, IfOk-at_ok}
use Rattle.os8_dir.specs.Entries.{DirectoryState}
use Rattle.os8_dir.specs.Reading.{directory_of}
use Rattle.os8_dir.specs.declared.entries.DirEntry.{DirEntry}
use Rattle.volume_image.specs.Volume.{IsBlock}
use Rattle.os8_dir.specs.Files.{files_of, limit_of, of_directory}
use Rattle.os8_dir.specs.Found.{IsDirectory, files_at, extent_of, limit}
use Rattle.os8_dir.specs.Changes.{lowest_above, moved_down}
use Rattle.os8_files.specs.Mounted.{MountState}
use Rattle.os8_files.specs.Calls.{StopsInPart, entries_moved, counted_more}
use Rattle.os8_files.specs.Failed.{extent_or, lowest_or}
use Rattle.os8_files.specs.WriteSteps.{HasDirectory, HasBrokenOff, with_run}
use Rattle.os8_files.proofs.LookupLemmas.{find_within}
use Rattle.os8_files.proofs.BoundLemmas.{is-over}
use Rattle.os8_files.proofs.CallLemmas.{extent-at}
use Rattle.os8_files.proofs.RoomLemmas.{room-inside}
use Rattle.os8_files.proofs.RunLemmas.{length-with_run}
use Rattle.os8_files.proofs.SqueezeLemmas.{lies-above, moved-file, some-above, copy-refused, rewrite-refused}
use Rattle.os8_files.proofs.FailedLemmas.{copy-failed, move-failed}
use Rattle.os8_files.proofs.service.FileService.move_down.Goals as goal

pub moved_down-requires : goal.moved_down-requires
moved_down-requires g c =
    let blocks = g.S.BlockStore.contents c.self.inside.store in
    let old = c.args.self.now in
    let d = c.self.inside.directory in
    let name = c.args.name in
    let gap = c.args.gap in
    let same : old.blocks ≡ blocks = ap (λ (m : MountState). m.blocks) (sym c.self.view_is) in
    let running : c.self.inside.stopped ≡ false = ap (λ (m : MountState). m.stopped) c.self.view_is ∙ c.requires.ready.running in
    let kept : directory_of old.blocks ≡ Ok d = subst (λ bs. directory_of bs ≡ Ok d) (sym same) (c.self.invariant.kept running) in
    let is = c.sound_directory.ensures old.blocks d kept in
    let low : lowest_above d.entries ≡ Some (name, gap) = sym (ap lowest_or kept) ∙ c.requires.lowest in
    let up = c.lowest_file.ensures.gap d.entries name gap is.neat low in
    record { gap = omega (arith, up.0, up.1) }

pub unreachable-requires : goal.unreachable-requires
unreachable-requires g c =
    let blocks = g.S.BlockStore.contents c.self.inside.store in
    let old = c.args.self.now in
    let d = c.self.inside.directory in
    let name = c.args.name in
    let gap = c.args.gap in
    let same : old.blocks ≡ blocks = ap (λ (m : MountState). m.blocks) (sym c.self.view_is) in
    let running : c.self.inside.stopped ≡ false = ap (λ (m : MountState). m.stopped) c.self.view_is ∙ c.requires.ready.running in
    let kept : directory_of old.blocks ≡ Ok d = subst (λ bs. directory_of bs ≡ Ok d) (sym same) (c.self.invariant.kept running) in
    let is = c.sound_directory.ensures old.blocks d kept in
    let low : lowest_above d.entries ≡ Some (name, gap) = sym (ap lowest_or kept) ∙ c.requires.lowest in
    let r = lies-above c.lowest_file.ensures.gap c.file_moved_down.ensures.found (length old.blocks) name gap d is low in
    let there = ap extent_of (sym r.1.0) ∙ sym c.find.ensures ∙ c.in-None.is in
    cc

pub copy_down-requires-clause-high : goal.copy_down-requires-clause-high
copy_down-requires-clause-high g c =
    let blocks = g.S.BlockStore.contents c.self.inside.store in
    let old = c.args.self.now in
    let d = c.self.inside.directory in
    let name = c.args.name in
    let gap = c.args.gap in
    let same : old.blocks ≡ blocks = ap (λ (m : MountState). m.blocks) (sym c.self.view_is) in
    let running : c.self.inside.stopped ≡ false = ap (λ (m : MountState). m.stopped) c.self.view_is ∙ c.requires.ready.running in
    let kept : directory_of old.blocks ≡ Ok d = subst (λ bs. directory_of bs ≡ Ok d) (sym same) (c.self.invariant.kept running) in
    let is = c.sound_directory.ensures old.blocks d kept in
    let low : lowest_above d.entries ≡ Some (name, gap) = sym (ap lowest_or kept) ∙ c.requires.lowest in
    let r = lies-above c.lowest_file.ensures.gap c.file_moved_down.ensures.found (length old.blocks) name gap d is low in
    let at = extent-at r.0 c.in-Some.place c.in-Some.size (ap extent_of (sym r.1.0) ∙ sym c.find.ensures ∙ c.in-Some.is) in
    let within = find_within name d.first (length old.blocks) (files_at d.first d.entries) r.0 is.apart r.1.0 in
    let inside = room-inside (r.0.place - gap) gap d.first d.entries r.1.2 in
    omega (arith, inside.0, is.starts, at.0, r.1.1)

pub copy_down-requires-clause-inside : goal.copy_down-requires-clause-inside
copy_down-requires-clause-inside g c =
    let blocks = g.S.BlockStore.contents c.self.inside.store in
    let old = c.args.self.now in
    let d = c.self.inside.directory in
    let name = c.args.name in
    let gap = c.args.gap in
    let same : old.blocks ≡ blocks = ap (λ (m : MountState). m.blocks) (sym c.self.view_is) in
    let running : c.self.inside.stopped ≡ false = ap (λ (m : MountState). m.stopped) c.self.view_is ∙ c.requires.ready.running in
    let kept : directory_of old.blocks ≡ Ok d = subst (λ bs. directory_of bs ≡ Ok d) (sym same) (c.self.invariant.kept running) in
    let is = c.sound_directory.ensures old.blocks d kept in
    let low : lowest_above d.entries ≡ Some (name, gap) = sym (ap lowest_or kept) ∙ c.requires.lowest in
    let r = lies-above c.lowest_file.ensures.gap c.file_moved_down.ensures.found (length old.blocks) name gap d is low in
    let at = extent-at r.0 c.in-Some.place c.in-Some.size (ap extent_of (sym r.1.0) ∙ sym c.find.ensures ∙ c.in-Some.is) in
    let within = find_within name d.first (length old.blocks) (files_at d.first d.entries) r.0 is.apart r.1.0 in
    let inside = room-inside (r.0.place - gap) gap d.first d.entries r.1.2 in
    omega (arith, within, at.0, at.1)

pub rewrite-requires-clause-sound : goal.rewrite-requires-clause-sound
rewrite-requires-clause-sound g c =
    let blocks = g.S.BlockStore.contents c.self.inside.store in
    let old = c.args.self.now in
    let d = c.self.inside.directory in
    let name = c.args.name in
    let gap = c.args.gap in
    let same : old.blocks ≡ blocks = ap (λ (m : MountState). m.blocks) (sym c.self.view_is) in
    let running : c.self.inside.stopped ≡ false = ap (λ (m : MountState). m.stopped) c.self.view_is ∙ c.requires.ready.running in
    let kept : directory_of old.blocks ≡ Ok d = subst (λ bs. directory_of bs ≡ Ok d) (sym same) (c.self.invariant.kept running) in
    let is = c.sound_directory.ensures old.blocks d kept in
    let copied = c.in_ok-copy_down-in-Some.ensures in
    let long : length c.copy_down.new.self.blocks ≡ length old.blocks = ap (λ (bs : List (List ℕ)). length bs) copied.0 ∙ length-with_run old.blocks (c.in-Some.place - gap) (take c.in-Some.size (drop c.in-Some.place old.blocks)) in
    subst (λ n. IsDirectory n c.in_ok-directory.directory) (sym long) (subst (λ (x : DirectoryState). IsDirectory (length old.blocks) x) (sym (IfOk-at_ok _ c.in_ok-directory.ensures c.moved_down.ensures.list)) (c.file_moved_down.ensures.directory (length old.blocks) name d is))

pub returns : goal.returns
returns g c =
    let blocks = g.S.BlockStore.contents c.self.inside.store in
    let old = c.args.self.now in
    let d = c.self.inside.directory in
    let name = c.args.name in
    let gap = c.args.gap in
    let same : old.blocks ≡ blocks = ap (λ (m : MountState). m.blocks) (sym c.self.view_is) in
    let running : c.self.inside.stopped ≡ false = ap (λ (m : MountState). m.stopped) c.self.view_is ∙ c.requires.ready.running in
    let kept : directory_of old.blocks ≡ Ok d = subst (λ bs. directory_of bs ≡ Ok d) (sym same) (c.self.invariant.kept running) in
    let is = c.sound_directory.ensures old.blocks d kept in
    let low : lowest_above d.entries ≡ Some (name, gap) = sym (ap lowest_or kept) ∙ c.requires.lowest in
    let r = lies-above c.lowest_file.ensures.gap c.file_moved_down.ensures.found (length old.blocks) name gap d is low in
    let at = extent-at r.0 c.in-Some.place c.in-Some.size (ap extent_of (sym r.1.0) ∙ sym c.find.ensures ∙ c.in-Some.is) in
    let copied = c.in_ok-copy_down-in-Some.ensures in
    let mid = c.copy_down.new.self in
    let put : mid.blocks ≡ with_run old.blocks (r.0.place - gap) (take r.0.size (drop r.0.place old.blocks)) = copied.0
    ∙ ap (λ p. with_run old.blocks (p - gap) (take c.in-Some.size (drop p old.blocks))) (sym at.0)
    ∙ ap (λ n. with_run old.blocks (r.0.place - gap) (take n (drop r.0.place old.blocks))) (sym at.1) in
    moved-file c.files_found.ensures c.rooms.ensures.lie c.rooms.ensures.outside c.directory_numbers.ensures.limit c.directory_numbers.ensures.capacity c.directory_numbers.ensures.above
    c.lowest_file.ensures.gap c.lowest_file.ensures.fewer c.file_moved_down.ensures.there c.file_moved_down.ensures.others c.file_moved_down.ensures.covered
    old mid c.rewrite.new.self d name gap c.requires.ready kept is low r put copied.1 (copied.3 ∙ ap (λ n. counted_more n old.reads) (sym at.1)) (copied.2 ∙ ap (λ n. counted_more n old.writes) (sym at.1))
    (subst (λ (x : DirectoryState). HasDirectory mid x c.rewrite.new.self) (IfOk-at_ok _ c.in_ok-directory.ensures c.moved_down.ensures.list) c.in_ok-rewrite-in-Some.ensures)

pub returns-then-entries-limit : goal.returns-then-entries-limit
returns-then-entries-limit g c =
    let blocks = g.S.BlockStore.contents c.self.inside.store in
    let old = c.args.self.now in
    let d = c.self.inside.directory in
    let name = c.args.name in
    let gap = c.args.gap in
    let same : old.blocks ≡ blocks = ap (λ (m : MountState). m.blocks) (sym c.self.view_is) in
    let running : c.self.inside.stopped ≡ false = ap (λ (m : MountState). m.stopped) c.self.view_is ∙ c.requires.ready.running in
    let kept : directory_of old.blocks ≡ Ok d = subst (λ bs. directory_of bs ≡ Ok d) (sym same) (c.self.invariant.kept running) in
    let is = c.sound_directory.ensures old.blocks d kept in
    let low : lowest_above d.entries ≡ Some (name, gap) = sym (ap lowest_or kept) ∙ c.requires.lowest in
    let some = some-above c.directory_numbers.ensures.above c.lowest_file.ensures.none old.blocks d name gap kept is low in
    let full : limit c.in_ok-directory.directory < length c.in_ok-directory.directory.entries = omega (arith, ap (λ (es : List DirEntry). length es) c.entries.ensures.list, c.limit.ensures.value, c.if-entries-limit.true) in
    let more : limit d < length (moved_down name d.entries) = subst (λ (x : DirectoryState). limit x < length x.entries) (IfOk-at_ok _ c.in_ok-directory.ensures c.moved_down.ensures.list) full in
    let long : limit_of old.blocks < entries_moved name old.blocks = omega (arith, more, c.directory_numbers.ensures.limit old.blocks d kept, ap (of_directory (λ (x : DirectoryState). length (moved_down name x.entries))) kept) in
    let each : All IsBlock old.blocks = subst (λ bs. All IsBlock bs) (sym same) c.self.invariant.volume.each in
    let made = c.files_made.ensures old.blocks d kept in
    let over = is-over c.directory_numbers.ensures.limit c.directory_numbers.ensures.above c.entry_counts.ensures.entries c.entry_counts.ensures.empties c.entry_counts.ensures.one
    old.blocks d d.entries (files_of old.blocks) each kept made is is made (omega arith) (omega (arith, more, c.file_moved_down.ensures.entries name d.entries)) in
    (c.requires.ready, name, gap, c.requires.lowest, long, some, over, refl)

pub returns-in_err-copy_down-in-Some : goal.returns-in_err-copy_down-in-Some
returns-in_err-copy_down-in-Some g c =
    let blocks = g.S.BlockStore.contents c.self.inside.store in
    let old = c.args.self.now in
    let d = c.self.inside.directory in
    let name = c.args.name in
    let gap = c.args.gap in
    let same : old.blocks ≡ blocks = ap (λ (m : MountState). m.blocks) (sym c.self.view_is) in
    let running : c.self.inside.stopped ≡ false = ap (λ (m : MountState). m.stopped) c.self.view_is ∙ c.requires.ready.running in
    let kept : directory_of old.blocks ≡ Ok d = subst (λ bs. directory_of bs ≡ Ok d) (sym same) (c.self.invariant.kept running) in
    let is = c.sound_directory.ensures old.blocks d kept in
    let low : lowest_above d.entries ≡ Some (name, gap) = sym (ap lowest_or kept) ∙ c.requires.lowest in
    let some = some-above c.directory_numbers.ensures.above c.lowest_file.ensures.none old.blocks d name gap kept is low in
    let p = err_from_is_err_and c.from_residual-in_err-copy_down-in-Some.result c.from_residual-in_err-copy_down-in-Some.ensures.1 in
    let r = lies-above c.lowest_file.ensures.gap c.file_moved_down.ensures.found (length old.blocks) name gap d is low in
    let at = extent-at r.0 c.in-Some.place c.in-Some.size (ap extent_of (sym r.1.0) ∙ sym c.find.ensures ∙ c.in-Some.is) in
    let new = c.copy_down.new.self in
    rw (p.1, p.2) (copy-refused old new c.in-Some.place c.in-Some.size gap c.in_err-copy_down-in-Some.field-0.0 c.requires.ready some
    (λ rises. record { name = name; gap = gap; lowest = c.requires.lowest; place = c.in-Some.place; size = c.in-Some.size; was = ap (extent_or name) kept ∙ sym c.find.ensures ∙ c.in-Some.is; reads = rises })
    (λ failed counts broken. copy-failed c.directory_blocks.ensures c.files_found.ensures c.rooms.ensures.lie c.rooms.ensures.outside old new d name gap c.requires.ready kept is low r
    (subst (λ n. HasBrokenOff old.blocks (r.0.place - gap) n new.blocks old.writes new.writes) (sym at.1) (subst (λ n. HasBrokenOff old.blocks (n - gap) c.in-Some.size new.blocks old.writes new.writes) (sym at.0) broken))
    (counts ∙ ap (λ n. counted_more n old.reads) (sym at.1)) failed)
    c.in_err-copy_down-in-Some.ensures)

pub returns-in_err-directory : goal.returns-in_err-directory
returns-in_err-directory g c =
    let e = err_from_is_err_and c.from_residual.result c.from_residual.ensures.1 in
    let blocks = g.S.BlockStore.contents c.self.inside.store in
    let old = c.args.self.now in
    let d = c.self.inside.directory in
    let name = c.args.name in
    let gap = c.args.gap in
    let same : old.blocks ≡ blocks = ap (λ (m : MountState). m.blocks) (sym c.self.view_is) in
    let running : c.self.inside.stopped ≡ false = ap (λ (m : MountState). m.stopped) c.self.view_is ∙ c.requires.ready.running in
    let kept : directory_of old.blocks ≡ Ok d = subst (λ bs. directory_of bs ≡ Ok d) (sym same) (c.self.invariant.kept running) in
    let is = c.sound_directory.ensures old.blocks d kept in
    let low : lowest_above d.entries ≡ Some (name, gap) = sym (ap lowest_or kept) ∙ c.requires.lowest in
    let some = some-above c.directory_numbers.ensures.above c.lowest_file.ensures.none old.blocks d name gap kept is low in
    rw (e.1, e.2) (c.requires.ready, some, refl)

pub returns-in_err-rewrite-in-Some : goal.returns-in_err-rewrite-in-Some
returns-in_err-rewrite-in-Some g c =
    let blocks = g.S.BlockStore.contents c.self.inside.store in
    let old = c.args.self.now in
    let d = c.self.inside.directory in
    let name = c.args.name in
    let gap = c.args.gap in
    let same : old.blocks ≡ blocks = ap (λ (m : MountState). m.blocks) (sym c.self.view_is) in
    let running : c.self.inside.stopped ≡ false = ap (λ (m : MountState). m.stopped) c.self.view_is ∙ c.requires.ready.running in
    let kept : directory_of old.blocks ≡ Ok d = subst (λ bs. directory_of bs ≡ Ok d) (sym same) (c.self.invariant.kept running) in
    let is = c.sound_directory.ensures old.blocks d kept in
    let low : lowest_above d.entries ≡ Some (name, gap) = sym (ap lowest_or kept) ∙ c.requires.lowest in
    let r = lies-above c.lowest_file.ensures.gap c.file_moved_down.ensures.found (length old.blocks) name gap d is low in
    let at = extent-at r.0 c.in-Some.place c.in-Some.size (ap extent_of (sym r.1.0) ∙ sym c.find.ensures ∙ c.in-Some.is) in
    let copied = c.in_ok-copy_down-in-Some.ensures in
    let mid = c.copy_down.new.self in
    let put : mid.blocks ≡ with_run old.blocks (r.0.place - gap) (take r.0.size (drop r.0.place old.blocks)) = copied.0
    ∙ ap (λ p. with_run old.blocks (p - gap) (take c.in-Some.size (drop p old.blocks))) (sym at.0)
    ∙ ap (λ n. with_run old.blocks (r.0.place - gap) (take n (drop r.0.place old.blocks))) (sym at.1) in
    let p = err_from_is_err_and c.from_residual-in_err-rewrite-in-Some.result c.from_residual-in_err-rewrite-in-Some.ensures.1 in
    rw (p.1, p.2) (rewrite-refused old mid c.rewrite.new.self c.in_ok-directory.directory c.in_err-rewrite-in-Some.field-0.0
    (λ failed keeps part. move-failed c.directory_blocks.ensures c.files_found.ensures c.rooms.ensures.lie c.rooms.ensures.outside c.lowest_file.ensures.gap c.file_moved_down.ensures.there c.file_moved_down.ensures.others c.file_moved_down.ensures.directory
    old mid c.rewrite.new.self d name gap c.requires.ready kept is low r put copied.1 (copied.3 ∙ ap (λ n. counted_more n old.reads) (sym at.1)) (copied.2 ∙ ap (λ n. counted_more n old.writes) (sym at.1)) failed keeps (subst (λ (x : DirectoryState). StopsInPart mid.blocks c.rewrite.new.self.blocks x mid.writes c.rewrite.new.self.writes) (IfOk-at_ok _ c.in_ok-directory.ensures c.moved_down.ensures.list) part))
    c.in_err-rewrite-in-Some.ensures)
