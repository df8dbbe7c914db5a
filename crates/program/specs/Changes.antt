-- Commands that write an image file, which another program may hold: for how long each waits, and for which file (this project's profile).
use Rattle.std.specs.Prelude.{ℕ, Option, None, Some, Result, List, []}
use Rattle.hosts.specs.Event.{Event}
use Rattle.program_tasks.specs.declared.forms.ImageForm.{ImageForm}
use Rattle.outcome.specs.declared.endings.Ending.{Ending}
use Rattle.archive_files.specs.Asking.{target_of}
use Rattle.change_commands.specs.Creating.{CreatesFile, CreatesVolume, IsBlankDisk, IsBlankImage, IsBlankTapeFile}
use Rattle.change_commands.specs.declared.creating.TheConstants.{DISK_BLOCKS, TAPE_BLOCKS}
use Rattle.change_commands.specs.Changing.{Renames, Squeezes}
use Rattle.change_commands.specs.Copying.{Copies}
use Rattle.change_commands.specs.Deleting.{Deletes}
use Rattle.put_commands.specs.Putting.{Puts}
use Rattle.change_commands.specs.Patching.{PatchesWord}
use Rattle.assemble_commands.specs.Assembling.{Assembles}
use Rattle.program.specs.declared.changes.Change.{Change}
use Rattle.program.specs.declared.changes.Change.TheVariants as change

-- what a command does that writes an image file
abbrev pub DoesChange : Change → List Event → Result (Unit {0}) Ending → List Event → Type 0
DoesChange (change.Create form blocks) = CreatesFile (IsBlankImage blocks) form blocks
DoesChange (change.CreateTape form) = CreatesFile IsBlankTapeFile form TAPE_BLOCKS
DoesChange (change.CreateDisk form) = CreatesFile IsBlankDisk form DISK_BLOCKS
DoesChange (change.CreateVolume image) = CreatesVolume image
DoesChange (change.Put form) = Puts form
DoesChange (change.Delete form) = Deletes form
DoesChange (change.Rename image file new) = Renames (target_of file) new.bytes.items image
DoesChange (change.Copy form) = Copies form
DoesChange (change.Squeeze image) = Squeezes image
DoesChange (change.Patch image word) = PatchesWord word image
DoesChange (change.Assemble form) = Assembles form

abbrev pub seconds_for : Option ImageForm → ℕ
seconds_for None = 0
seconds_for (Some image) = image.wait

-- how many seconds a command is tried again
abbrev pub seconds_of : Change → ℕ
seconds_of (change.Create form blocks) = form.wait
seconds_of (change.CreateTape form) = form.wait
seconds_of (change.CreateDisk form) = form.wait
seconds_of (change.CreateVolume image) = image.wait
seconds_of (change.Put form) = form.image.wait
seconds_of (change.Delete form) = form.image.wait
seconds_of (change.Rename image file new) = image.wait
seconds_of (change.Copy form) = form.to.wait
seconds_of (change.Squeeze image) = image.wait
seconds_of (change.Patch image word) = image.wait
seconds_of (change.Assemble form) = seconds_for form.from

abbrev pub file_for : Option ImageForm → List ℕ
file_for None = []
file_for (Some image) = image.file.bytes.items

-- the name of the image file
abbrev pub file_of : Change → List ℕ
file_of (change.Create form blocks) = form.file.bytes.items
file_of (change.CreateTape form) = form.file.bytes.items
file_of (change.CreateDisk form) = form.file.bytes.items
file_of (change.CreateVolume image) = image.file.bytes.items
file_of (change.Put form) = form.image.file.bytes.items
file_of (change.Delete form) = form.image.file.bytes.items
file_of (change.Rename image file new) = image.file.bytes.items
file_of (change.Copy form) = form.to.file.bytes.items
file_of (change.Squeeze image) = image.file.bytes.items
file_of (change.Patch image word) = image.file.bytes.items
file_of (change.Assemble form) = file_for form.from
