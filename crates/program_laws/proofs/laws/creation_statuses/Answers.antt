use Rattle.std.proofs.Common.{refl}
use Rattle.program_tasks.specs.declared.tasks.Task.TheVariants as task
use Rattle.program.specs.Asking.{file_of_form}
use Rattle.change_commands.specs.Creating.{CreatesFile, IsBlankDisk, IsBlankImage, IsBlankTapeFile}
use Rattle.change_commands.specs.declared.creating.TheConstants.{DISK_BLOCKS, TAPE_BLOCKS}
use Rattle.keeper_laws.specs.Made.{HasCreated}
use Rattle.program_laws.proofs.MadeStatusLemmas.{made-means, rescue-means}
use Rattle.program_laws.proofs.StatusLemmas.{create-reports}
use Rattle.program_laws.proofs.laws.creation_statuses.Goals as goal

pub returns-clause-volumes : goal.returns-clause-volumes
returns-clause-volumes g c form blocks is_typed before after =
    made-means (HasCreated (IsBlankImage blocks) form blocks) (create-reports (IsBlankImage blocks) form blocks) (CreatesFile (IsBlankImage blocks) form blocks) (c.ended_creations.ensures.volumes form blocks)
    form.wait form.file.bytes.items (task.Create form blocks) is_typed _ refl (file_of_form form) (λ old work new p. p)

pub returns-clause-tapes : goal.returns-clause-tapes
returns-clause-tapes g c form is_typed before after =
    made-means (HasCreated IsBlankTapeFile form TAPE_BLOCKS) (create-reports IsBlankTapeFile form TAPE_BLOCKS) (CreatesFile IsBlankTapeFile form TAPE_BLOCKS) (c.ended_creations.ensures.tapes form)
    form.wait form.file.bytes.items (task.CreateTape form) is_typed _ refl (file_of_form form) (λ old work new p. p)

pub returns-clause-disks : goal.returns-clause-disks
returns-clause-disks g c form is_typed before after =
    made-means (HasCreated IsBlankDisk form DISK_BLOCKS) (create-reports IsBlankDisk form DISK_BLOCKS) (CreatesFile IsBlankDisk form DISK_BLOCKS) (c.ended_creations.ensures.disks form)
    form.wait form.file.bytes.items (task.CreateDisk form) is_typed _ refl (file_of_form form) (λ old work new p. p)

pub returns-clause-rescues : goal.returns-clause-rescues
returns-clause-rescues g c form is_typed before after =
    rescue-means form.new.bytes.items form.image (c.ended_rescues.ensures form.new.bytes.items form.image) (task.Rescue form) is_typed _ refl (λ old work new p. p)
