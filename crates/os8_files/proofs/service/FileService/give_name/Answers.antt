use Rattle.std.proofs.Common.{List, ◌≡◌, ◌≤◌, false, Ok, length, ap, sym, subst, ◌∙◌, rules, arith}
use Rattle.std.proofs.lemmas.Result.{IfOk-at_ok}
use Rattle.os8_dir.specs.declared.entries.DirEntry.{DirEntry}
use Rattle.os8_dir.specs.Entries.{DirectoryState}
use Rattle.os8_dir.specs.Reading.{directory_of}
use Rattle.os8_dir.specs.Found.{files_at, find, IsDirectory, limit}
use Rattle.os8_dir.specs.Renaming.{with_new_name}
use Rattle.os8_files.specs.Mounted.{MountState}
use Rattle.os8_files.specs.Calls.{StopsInPart}
use Rattle.os8_files.specs.Renames.{RenamesFile}
use Rattle.os8_files.specs.WriteSteps.{HasDirectory}
use Rattle.os8_files.proofs.CallLemmas.{by-rewrite}
use Rattle.os8_files.proofs.RenameLemmas.{find-none, find-there, has-name, rename-failed}
use Rattle.os8_files.proofs.service.FileService.give_name.Goals as goal

pub with_new_name-requires : goal.with_new_name-requires
with_new_name-requires g c =
    let d = c.self.inside.directory in
    let name = c.args.name.now in
    let old = c.args.self.now in
    let running : c.self.inside.stopped ≡ false = ap (λ (m : MountState). m.stopped) c.self.view_is ∙ c.requires.ready.running in
    let kept : directory_of old.blocks ≡ Ok d = subst (λ (m : MountState). directory_of m.blocks ≡ Ok d) c.self.view_is (c.self.invariant.kept running) in
    let f = find-there old.blocks d.info (find name (files_at d.first d.entries)) c.requires.there.0 (sym (c.files_found.ensures old.blocks d name kept) ∙ c.requires.there.1) in
    record {
      there = rw f.1 (search rules);
      named = c.requires.named;
      fresh = find-none old.blocks d.info (find c.args.new_name (files_at d.first d.entries)) (sym (c.files_found.ensures old.blocks d c.args.new_name kept) ∙ c.requires.fresh);
    }

pub rewrite-requires-clause-sound : goal.rewrite-requires-clause-sound
rewrite-requires-clause-sound g c =
    let d = c.self.inside.directory in
    let old = c.args.self.now in
    let running : c.self.inside.stopped ≡ false = ap (λ (m : MountState). m.stopped) c.self.view_is ∙ c.requires.ready.running in
    let kept : directory_of old.blocks ≡ Ok d = subst (λ (m : MountState). directory_of m.blocks ≡ Ok d) c.self.view_is (c.self.invariant.kept running) in
    rw (IfOk-at_ok _ c.in_ok-directory.ensures c.with_new_name.ensures.list)
    (c.file_renamed.ensures.directory (length old.blocks) c.args.name.now c.args.new_name d (c.sound_directory.ensures old.blocks d kept) c.requires.named
    (find-none old.blocks d.info (find c.args.new_name (files_at d.first d.entries)) (sym (c.files_found.ensures old.blocks d c.args.new_name kept) ∙ c.requires.fresh)))

pub returns : goal.returns
returns g c =
    let d = c.self.inside.directory in
    let name = c.args.name.now in
    let other = c.args.new_name in
    let old = c.args.self.now in
    let running : c.self.inside.stopped ≡ false = ap (λ (m : MountState). m.stopped) c.self.view_is ∙ c.requires.ready.running in
    let kept : directory_of old.blocks ≡ Ok d = subst (λ (m : MountState). directory_of m.blocks ≡ Ok d) c.self.view_is (c.self.invariant.kept running) in
    let is : IsDirectory (length old.blocks) d = c.sound_directory.ensures old.blocks d kept in
    let list = IfOk-at_ok _ c.in_ok-directory.ensures c.with_new_name.ensures.list in
    let full : length c.in_ok-directory.directory.entries ≤ limit c.in_ok-directory.directory = omega (arith, ap (λ (es : List DirEntry). length es) c.entries.ensures.list, c.limit.ensures.value, c.if-entries-limit.false) in
    let more : length (with_new_name name other d.entries) ≤ limit d = subst (λ (x : DirectoryState). length x.entries ≤ limit x) list full in
    let fits : length d.entries ≤ limit d = omega (arith, more, c.file_renamed.ensures.entries name other d.entries) in
    by-rewrite old c.rewrite.new.self c.in_ok-directory.directory c.rewrite.result (λ r. RenamesFile old name other r c.rewrite.new.self) c.rewrite.ensures
    (λ done has. has-name c.files_found.ensures c.directory_numbers.ensures.limit c.directory_numbers.ensures.capacity c.directory_numbers.ensures.above
    (record { gone = c.file_renamed.ensures.gone; there = c.file_renamed.ensures.there; others = c.file_renamed.ensures.others; covered = c.file_renamed.ensures.covered; above = c.file_renamed.ensures.above })
    old c.rewrite.new.self d name other c.requires.there.0 c.requires.ready c.requires.named kept is c.requires.there.1 c.requires.fresh c.requires.free c.requires.unheld fits
    (subst (λ (x : DirectoryState). HasDirectory old x c.rewrite.new.self) list has))
    (λ failed keeps part. rename-failed old c.rewrite.new.self d name other c.requires.ready c.requires.named c.requires.there c.requires.free c.requires.unheld kept is
    (c.files_made.ensures old.blocks d kept) failed keeps (subst (λ (x : DirectoryState). StopsInPart old.blocks c.rewrite.new.self.blocks x old.writes c.rewrite.new.self.writes) list part))
