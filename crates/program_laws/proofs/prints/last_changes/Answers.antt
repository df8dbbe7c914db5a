use Rattle.std.proofs.Common.{◌⊎◌, refl, Some}
use Rattle.program_tasks.specs.declared.tasks.Task.TheVariants as task
use Rattle.archive_files.specs.Asking.{target_of}
use Rattle.change_commands.specs.Changing.{Renames, Squeezes}
use Rattle.change_commands.specs.Copying.{Copies}
use Rattle.change_commands.specs.Creating.{CreatesFile, CreatesVolume, IsBlankDisk, IsBlankImage, IsBlankTapeFile}
use Rattle.change_commands.specs.Deleting.{Deletes}
use Rattle.change_commands.specs.Patching.{PatchesWord}
use Rattle.change_commands.specs.declared.creating.TheConstants.{DISK_BLOCKS, TAPE_BLOCKS}
use Rattle.put_commands.specs.Putting.{Puts}
use Rattle.salvage_commands.specs.Rescuing.{RescuesImage}
use Rattle.program.specs.Asking.{file_of_form}
use Rattle.program.specs.Tasks.{word_patch}
use Rattle.keeper_laws.specs.Changes.{HasDeleted, HasEmptied, HasPatched, HasRenamed, HasSqueezed}
use Rattle.keeper_laws.specs.Copied.{HasCopied}
use Rattle.keeper_laws.specs.Ended.{EndsAs, RefusesAloud}
use Rattle.keeper_laws.specs.Made.{EndsMade, HasCreated}
use Rattle.keeper_laws.specs.Stored.{HasStored}
use Rattle.program_laws.proofs.PrintLemmas.{asked-task-stops, change-busy, change-prints, made-busy, made-prints, patch-busy, patch-prints, rescue-stops, task-stops}
use Rattle.program_laws.proofs.prints.last_changes.Goals as goal

pub returns-clause-puts : goal.returns-clause-puts
returns-clause-puts g c form is_typed before after =
    task-stops (EndsAs form.image (HasStored form)) (change-prints (HasStored form) (λ ok old new s. (_, s.prints)) form.image) (change-busy form.image (HasStored form)) (Puts form) (c.ended_changes.ensures.puts form)
    form.image.wait form.image.file.bytes.items (task.Put form) is_typed _ refl (λ old work new p. p)

pub returns-clause-copies : goal.returns-clause-copies
returns-clause-copies g c form is_typed before after =
    task-stops (EndsAs form.to (HasCopied form)) (change-prints (HasCopied form) (λ ok old new s. (_, s.prints)) form.to) (change-busy form.to (HasCopied form)) (Copies form) (c.ended_changes.ensures.copies form)
    form.to.wait form.to.file.bytes.items (task.Copy form) is_typed _ refl (λ old work new p. p)

pub returns-clause-squeezes : goal.returns-clause-squeezes
returns-clause-squeezes g c form is_typed before after =
    task-stops (EndsAs form (HasSqueezed form)) (change-prints (HasSqueezed form) (λ ok old new s. (_, s.prints)) form) (change-busy form (HasSqueezed form)) (Squeezes form) (c.ended_changes.ensures.squeezes form)
    form.wait form.file.bytes.items (task.Squeeze form) is_typed _ refl (λ old work new p. p)

pub returns-clause-renames : goal.returns-clause-renames
returns-clause-renames g c form file name is_typed before after =
    let done = HasRenamed (target_of file) name.bytes.items form in
    task-stops (EndsAs form done) (change-prints done (λ ok old new s. (_, s.prints)) form) (change-busy form done) (Renames (target_of file) name.bytes.items form)
    (c.ended_changes.ensures.renames (target_of file) name.bytes.items form) form.wait form.file.bytes.items (task.Rename form file name) is_typed _ refl (λ old work new p. p)

pub returns-clause-deletes : goal.returns-clause-deletes
returns-clause-deletes g c form is_typed before after =
    task-stops (EndsAs form.image (HasDeleted form)) (change-prints (HasDeleted form) (λ ok old new s. (_, s.prints)) form.image) (change-busy form.image (HasDeleted form)) (Deletes form) (c.ended_changes.ensures.deletes form)
    form.image.wait form.image.file.bytes.items (task.Delete form) is_typed _ refl (λ old work new p. p)

pub returns-clause-patches : goal.returns-clause-patches
returns-clause-patches g c form is_typed before after =
    let done = HasPatched (word_patch form) form.image in
    task-stops (λ work old new. EndsAs form.image done work old new ⊎ RefusesAloud work old new) (patch-prints done (λ ok old new s. (_, s.prints)) form.image) (patch-busy form.image done) (PatchesWord (word_patch form) form.image) (c.ended_words.ensures.patches (word_patch form) form.image)
    form.image.wait form.image.file.bytes.items (task.Patch form) is_typed _ refl (λ old work new p. p)

pub returns-clause-empties : goal.returns-clause-empties
returns-clause-empties g c form is_typed before after =
    asked-task-stops (EndsAs form (HasEmptied form)) (change-prints (HasEmptied form) (λ ok old new s. (_, s.prints)) form) (change-busy form (HasEmptied form)) (CreatesVolume form) (c.ended_words.ensures.empties form)
    form.wait form.file.bytes.items (task.CreateVolume form) is_typed _ refl (Some form.file.bytes.items) (λ old work new p. p)

pub returns-clause-volumes : goal.returns-clause-volumes
returns-clause-volumes g c form blocks is_typed before after =
    let done = HasCreated (IsBlankImage blocks) form blocks in
    asked-task-stops (EndsMade done) (made-prints done (λ ok old new s. (_, s.prints))) (made-busy done) (CreatesFile (IsBlankImage blocks) form blocks) (c.ended_creations.ensures.volumes form blocks)
    form.wait form.file.bytes.items (task.Create form blocks) is_typed _ refl (file_of_form form) (λ old work new p. p)

pub returns-clause-tapes : goal.returns-clause-tapes
returns-clause-tapes g c form is_typed before after =
    let done = HasCreated IsBlankTapeFile form TAPE_BLOCKS in
    asked-task-stops (EndsMade done) (made-prints done (λ ok old new s. (_, s.prints))) (made-busy done) (CreatesFile IsBlankTapeFile form TAPE_BLOCKS) (c.ended_creations.ensures.tapes form)
    form.wait form.file.bytes.items (task.CreateTape form) is_typed _ refl (file_of_form form) (λ old work new p. p)

pub returns-clause-disks : goal.returns-clause-disks
returns-clause-disks g c form is_typed before after =
    let done = HasCreated IsBlankDisk form DISK_BLOCKS in
    asked-task-stops (EndsMade done) (made-prints done (λ ok old new s. (_, s.prints))) (made-busy done) (CreatesFile IsBlankDisk form DISK_BLOCKS) (c.ended_creations.ensures.disks form)
    form.wait form.file.bytes.items (task.CreateDisk form) is_typed _ refl (file_of_form form) (λ old work new p. p)

pub returns-clause-rescues : goal.returns-clause-rescues
returns-clause-rescues g c form is_typed before after =
    rescue-stops form.new.bytes.items form.image (RescuesImage form.new.bytes.items form.image) (c.ended_rescues.ensures form.new.bytes.items form.image) (task.Rescue form) is_typed _ refl (λ old work new p. p)
