use Rattle.std.proofs.Common.{List, All, ◌≡◌, ◌≤◌, ◌<◌, false, true, None, Some, Ok, length, refl, ap, sym, subst, ◌∙◌, arith}
use Rattle.std.proofs.lemmas.Result.{err_from_is_err_and, IfOk-at_ok}
use Rattle.std.specs.FinMap.{get, remove}
use Rattle.volume_image.specs.Volume.{IsBlock}
use Rattle.os8_dir.specs.Files.{files_of, data_if_there, of_directory}
use Rattle.os8_dir.specs.Found.{files_at, find, IsDirectory, limit}
use Rattle.os8_files.specs.Mounted.{MountState, NewFile}
use Rattle.std.specs.Option.{is_some}
use Rattle.os8_dir.specs.Changes.{without_file}
use Rattle.os8_dir.specs.declared.entries.DirEntry.{DirEntry}
use Rattle.os8_dir.specs.Entries.{DirectoryState}
use Rattle.os8_dir.specs.Reading.{directory_of}
use Rattle.os8_files.specs.WriteSteps.{HasDirectory}
use Rattle.os8_files.specs.Calls.{IsReady, StopsInPart, DeletesFile}
use Rattle.os8_files.proofs.CallLemmas.{some-of, none-of, held-none, found-some, by-rewrite}
use Rattle.os8_files.proofs.BoundLemmas.{is-over, removed-made}
use Rattle.os8_files.proofs.DeleteLemmas.{deleted}
use Rattle.os8_files.proofs.FailedLemmas.{delete-failed}
use Rattle.os8_files.proofs.service.FileService.delete.Goals as goal

pub returns-then-is_some : goal.returns-then-is_some
returns-then-is_some g c =
    let s = some-of c.self.inside.tentative (sym c.is_some.ensures ∙ c.if-is_some.true) in
    subst (λ (m : MountState). (m.stopped ≡ false) × (x : NewFile) × (m.tentative ≡ Some x) × (m ≡ m)) c.self.view_is (c.if-self.false, s.0, s.1, refl)

pub returns-then-is_none : goal.returns-then-is_none
returns-then-is_none g c =
    let blocks = g.S.BlockStore.contents c.self.inside.store in
    let d = c.self.inside.directory in
    let out : is_some c.find.result ≡ false = c.is_none.ensures ∙ rw c.if-is_none.true refl in
    subst (λ (m : MountState). IsReady m × (get (files_of m.blocks) c.args.name.now ≡ None) × (m ≡ m)) c.self.view_is (
      record { running = c.if-self.false; none = none-of c.self.inside.tentative (sym c.is_some.ensures ∙ c.if-is_some.false) },
      c.files_found.ensures blocks d c.args.name.now (c.self.invariant.kept c.if-self.false) ∙ held-none blocks d.info (find c.args.name.now (files_at d.first d.entries)) (sym c.find.ensures ∙ none-of c.find.result out),
      refl,
    )

pub rewrite-requires-clause-sound : goal.rewrite-requires-clause-sound
rewrite-requires-clause-sound g c =
    let blocks = g.S.BlockStore.contents c.self.inside.store in
    let d = c.self.inside.directory in
    let kept = c.self.invariant.kept c.if-self.false in
    subst (λ (m : MountState). IsDirectory (length m.blocks) c.in_ok-directory.directory) c.self.view_is
    (rw (IfOk-at_ok _ c.in_ok-directory.ensures c.without_file.ensures.list) (c.file_removed.ensures.directory (length blocks) c.args.name.now d (c.sound_directory.ensures blocks d kept)))

pub returns-then-entries-limit : goal.returns-then-entries-limit
returns-then-entries-limit g c =
    let blocks = g.S.BlockStore.contents c.self.inside.store in
    let d = c.self.inside.directory in
    let name = c.args.name.now in
    let old = c.args.self.now in
    let same : old.blocks ≡ blocks = ap (λ (m : MountState). m.blocks) (sym c.self.view_is) in
    let kept : directory_of old.blocks ≡ Ok d = subst (λ bs. directory_of bs ≡ Ok d) (sym same) (c.self.invariant.kept c.if-self.false) in
    let is = c.sound_directory.ensures old.blocks d kept in
    let ready : IsReady old = subst (λ (m : MountState). IsReady m) c.self.view_is (record { running = c.if-self.false; none = none-of c.self.inside.tentative (sym c.is_some.ensures ∙ c.if-is_some.false) }) in
    let each : All IsBlock old.blocks = subst (λ bs. All IsBlock bs) (sym same) c.self.invariant.volume.each in
    let full : limit c.in_ok-directory.directory < length c.in_ok-directory.directory.entries = omega (arith, ap (λ (es : List DirEntry). length es) c.entries.ensures.list, c.limit.ensures.value, c.if-entries-limit.true) in
    let more : limit d < length (without_file name d.entries) = subst (λ (x : DirectoryState). limit x < length x.entries) (IfOk-at_ok _ c.in_ok-directory.ensures c.without_file.ensures.list) full in
    let over = is-over c.directory_numbers.ensures.limit c.directory_numbers.ensures.above c.entry_counts.ensures.entries c.entry_counts.ensures.empties c.entry_counts.ensures.one
    old.blocks d (without_file name d.entries) (remove (files_of old.blocks) name) each kept (c.files_made.ensures old.blocks d kept) is (c.file_removed.ensures.directory (length old.blocks) name d is)
    (removed-made c.files_found.ensures c.file_removed.ensures.gone c.file_removed.ensures.others old.blocks d name kept) (omega (arith, c.file_removed.ensures.entries name d.entries)) more in
    let there : is_some c.find.result ≡ true = c.is_none.ensures ∙ rw c.if-is_none.false refl in
    let p = some-of c.find.result there in
    let f = found-some (find name (files_at d.first d.entries)) p.0.0 p.0.1 (sym c.find.ensures ∙ p.1) in
    (ready, (_, c.files_found.ensures old.blocks d name kept ∙ ap (data_if_there old.blocks d.info) f.1), sym c.is_held.ensures ∙ c.if-is_held.false, omega (arith, more, c.directory_numbers.ensures.limit old.blocks d kept, ap (of_directory (λ (x : DirectoryState). length (without_file name x.entries))) kept), over, refl)

pub returns : goal.returns
returns g c =
    let blocks = g.S.BlockStore.contents c.self.inside.store in
    let d = c.self.inside.directory in
    let name = c.args.name.now in
    let old = c.args.self.now in
    let same : old.blocks ≡ blocks = ap (λ (m : MountState). m.blocks) (sym c.self.view_is) in
    let kept : directory_of old.blocks ≡ Ok d = subst (λ bs. directory_of bs ≡ Ok d) (sym same) (c.self.invariant.kept c.if-self.false) in
    let there : is_some c.find.result ≡ true = c.is_none.ensures ∙ rw c.if-is_none.false refl in
    let p = some-of c.find.result there in
    let f = found-some (find name (files_at d.first d.entries)) p.0.0 p.0.1 (sym c.find.ensures ∙ p.1) in
    let ready : IsReady old = subst (λ (m : MountState). IsReady m) c.self.view_is (record { running = c.if-self.false; none = none-of c.self.inside.tentative (sym c.is_some.ensures ∙ c.if-is_some.false) }) in
    let list = IfOk-at_ok _ c.in_ok-directory.ensures c.without_file.ensures.list in
    let full : length c.in_ok-directory.directory.entries ≤ limit c.in_ok-directory.directory = omega (arith, ap (λ (es : List DirEntry). length es) c.entries.ensures.list, c.limit.ensures.value, c.if-entries-limit.false) in
    let fits : length (without_file name d.entries) ≤ limit d = subst (λ (x : DirectoryState). length x.entries ≤ limit x) list full in
    by-rewrite old c.rewrite.new.self c.in_ok-directory.directory c.rewrite.result (λ r. DeletesFile old name r c.rewrite.new.self) c.rewrite.ensures
    (λ done has. deleted c.files_found.ensures c.directory_numbers.ensures.limit c.directory_numbers.ensures.capacity c.file_removed.ensures.gone c.file_removed.ensures.others c.file_removed.ensures.covered
    old c.rewrite.new.self d name _ ready kept (c.sound_directory.ensures old.blocks d kept) (c.files_found.ensures old.blocks d name kept ∙ ap (data_if_there old.blocks d.info) f.1) (sym c.is_held.ensures ∙ c.if-is_held.false)
    fits (subst (λ (x : DirectoryState). HasDirectory old x c.rewrite.new.self) list has))
    (λ failed keeps part. delete-failed old c.rewrite.new.self d name ready (_, c.files_found.ensures old.blocks d name kept ∙ ap (data_if_there old.blocks d.info) f.1) (sym c.is_held.ensures ∙ c.if-is_held.false) kept (c.sound_directory.ensures old.blocks d kept) (c.files_made.ensures old.blocks d kept) failed keeps (subst (λ (x : DirectoryState). StopsInPart old.blocks c.rewrite.new.self.blocks x old.writes c.rewrite.new.self.writes) list part))

pub returns-then-is_held : goal.returns-then-is_held
returns-then-is_held g c =
    let blocks = g.S.BlockStore.contents c.self.inside.store in
    let d = c.self.inside.directory in
    let name = c.args.name.now in
    let old = c.args.self.now in
    let same : old.blocks ≡ blocks = ap (λ (m : MountState). m.blocks) (sym c.self.view_is) in
    let kept : directory_of old.blocks ≡ Ok d = subst (λ bs. directory_of bs ≡ Ok d) (sym same) (c.self.invariant.kept c.if-self.false) in
    let ready : IsReady old = subst (λ (m : MountState). IsReady m) c.self.view_is (record { running = c.if-self.false; none = none-of c.self.inside.tentative (sym c.is_some.ensures ∙ c.if-is_some.false) }) in
    let there : is_some c.find.result ≡ true = c.is_none.ensures ∙ rw c.if-is_none.false refl in
    let p = some-of c.find.result there in
    let f = found-some (find name (files_at d.first d.entries)) p.0.0 p.0.1 (sym c.find.ensures ∙ p.1) in
    (ready, (_, c.files_found.ensures old.blocks d name kept ∙ ap (data_if_there old.blocks d.info) f.1), refl, sym c.is_held.ensures ∙ c.if-is_held.true, refl)

pub returns-in_err-directory : goal.returns-in_err-directory
returns-in_err-directory g c =
    let e = err_from_is_err_and c.from_residual.result c.from_residual.ensures.1 in
    let blocks = g.S.BlockStore.contents c.self.inside.store in
    let d = c.self.inside.directory in
    let name = c.args.name.now in
    let old = c.args.self.now in
    let same : old.blocks ≡ blocks = ap (λ (m : MountState). m.blocks) (sym c.self.view_is) in
    let kept : directory_of old.blocks ≡ Ok d = subst (λ bs. directory_of bs ≡ Ok d) (sym same) (c.self.invariant.kept c.if-self.false) in
    let ready : IsReady old = subst (λ (m : MountState). IsReady m) c.self.view_is (record { running = c.if-self.false; none = none-of c.self.inside.tentative (sym c.is_some.ensures ∙ c.if-is_some.false) }) in
    let there : is_some c.find.result ≡ true = c.is_none.ensures ∙ rw c.if-is_none.false refl in
    let p = some-of c.find.result there in
    let f = found-some (find name (files_at d.first d.entries)) p.0.0 p.0.1 (sym c.find.ensures ∙ p.1) in
    rw (e.1, e.2) (ready, (_, c.files_found.ensures old.blocks d name kept ∙ ap (data_if_there old.blocks d.info) f.1), sym c.is_held.ensures ∙ c.if-is_held.false, refl)
