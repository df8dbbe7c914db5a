-- The commands that make a new volume in a file.
use Rattle.std.specs.Prelude.{◌≡◌, ◌⊎◌, ℕ, Bool, true, false, Result, Ok, Err, List, ◌++◌}
use Rattle.std.specs.Global.{Vec}
use Rattle.hosts.specs.Event.{Event}
use Rattle.outcome.specs.declared.contents.Content.TheVariants.{Image}
use Rattle.outcome.specs.declared.endings.Ending.{Ending}
use Rattle.outcome.specs.declared.endings.Ending.TheVariants.{Fault, Line}
use Rattle.disk_layouts.specs.Files.{IsBlankTape, MakesTape}
use Rattle.disk_layouts.specs.declared.faults.DiskFault.{DiskFault}
use Rattle.volume_image.specs.Image.{Creates, IsImageOf}
use Rattle.volume_image.specs.Stores.{InMemory}
use Rattle.volume_image.specs.declared.faults.ImageFault.{ImageFault}
use Rattle.volume_image.specs.declared.faults.ImageFault.TheVariants as image
use Rattle.program_reports.specs.Program.{program_line}
use Rattle.program_reports.specs.declared.programs.ProgramLine.TheVariants as line
use Rattle.program_tasks.specs.declared.forms.CreateForm.{CreateForm}
use Rattle.image_files.specs.Work.{Then, Purely}
use Rattle.image_files.specs.Answers.{AreLines}
use Rattle.change_commands.specs.declared.creating.TheConstants.{TAPE_BLOCKS, DISK_BLOCKS}
use Rattle.image_files.specs.Saving.{Reports, Stores}
use Rattle.image_files.specs.Reading.{Opens}
use Rattle.program_tasks.specs.declared.forms.ImageForm.{ImageForm}
use Rattle.refusals.specs.declared.faults.SessionFault.TheVariants.{Memory}
use Rattle.image_files.specs.Making.{MakesFirst, MakesFile}

-- the image of an empty volume of so many blocks
abbrev pub IsBlankImage : ℕ → Result (Vec ℕ) Ending → Type 0
IsBlankImage blocks (Ok bytes) = (volume : InMemory) × Creates blocks (Ok volume) × IsImageOf bytes.items volume.blocks
IsBlankImage blocks (Err ending) = (fault : ImageFault) × (ending ≡ Line (line.Image fault)) × (Creates blocks (Err fault) ⊎ (fault ≡ image.Memory))

-- the file of a DECtape with an empty volume
abbrev pub IsBlankTapeFile : Result (Vec ℕ) Ending → Type 0
IsBlankTapeFile (Ok file) = (bytes : List ℕ) × (volume : InMemory) × Creates TAPE_BLOCKS (Ok volume) × IsImageOf bytes volume.blocks × IsBlankTape bytes file.items
IsBlankTapeFile (Err ending) = IsBlankImage TAPE_BLOCKS (Err ending) ⊎ ((image : List ℕ) × (fault : DiskFault) × (ending ≡ Line (line.Disk fault)) × MakesTape image (Err fault))

-- the file of a disk of two empty volumes
abbrev pub IsBlankDisk : Result (Vec ℕ) Ending → Type 0
IsBlankDisk (Ok file) = (bytes : List ℕ) × (volume : InMemory) × Creates DISK_BLOCKS (Ok volume) × IsImageOf bytes volume.blocks × (file.items ≡ bytes ++ bytes)
IsBlankDisk (Err ending) = IsBlankImage DISK_BLOCKS (Err ending) ⊎ (ending ≡ Fault Memory)

-- whether a file of these bytes is to be the first of its name
abbrev pub MakesIf : Bool → List ℕ → List ℕ → List Event → Result (Unit {0}) Ending → List Event → Type 0
MakesIf true name file old result new = MakesFirst name file old result new
MakesIf false name file old result new = MakesFile Image name file old result new

-- a file gets these bytes, and only then the line of a new volume of so many blocks is printed
abbrev pub MakesVolume : CreateForm → List ℕ → ℕ → List Event → Result (Unit {0}) Ending → List Event → Type 0
MakesVolume form file blocks = Then (Purely (AreLines (program_line (line.Created blocks)))) (λ lines. Then (MakesIf form.is_new form.file.bytes.items file) (λ it. Reports lines.items))

-- The file of a new volume of so many blocks is made, in place of any of its name unless it is to be the first. Only then its line is
-- printed.
abbrev pub CreatesFile : (Result (Vec ℕ) Ending → Type 0) → CreateForm → ℕ → List Event → Result (Unit {0}) Ending → List Event → Type 0
CreatesFile gives form blocks = Then (Purely gives) (λ file. MakesVolume form file.items blocks)

-- The file of a disk is held and read. Its volume that is named gets the image of an empty one, and the file is saved whole, so the other volume
-- stays. Only then the line is printed.
abbrev pub CreatesVolume : ImageForm → List Event → Result (Unit {0}) Ending → List Event → Type 0
CreatesVolume form = Then (Opens form) (λ image. Then (Purely (IsBlankImage DISK_BLOCKS)) (λ made. Then (Purely (AreLines (program_line (line.Created DISK_BLOCKS)))) (λ lines. Stores image made.items lines.items)))
