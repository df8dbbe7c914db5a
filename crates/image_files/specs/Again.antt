-- What a file is for whoever reads it again, by the same form of an image.
use Rattle.std.specs.Prelude.{◌≡◌, ◌⊎◌, ℕ, None, Result, Ok, Err, List}
use Rattle.std.specs.Global.{Vec}
use Rattle.hosts.specs.Event.{Event}
use Rattle.disk_layouts.specs.declared.faults.DiskFault.TheVariants as disk
use Rattle.image_kind.specs.Keeping.{two_readings}
use Rattle.outcome.specs.declared.endings.Ending.{Ending}
use Rattle.outcome.specs.declared.endings.Ending.TheVariants.{Line, Fault}
use Rattle.program_reports.specs.declared.programs.ProgramLine.TheVariants as line
use Rattle.program_tasks.specs.declared.forms.ImageForm.{ImageForm}
use Rattle.refusals.specs.declared.faults.SessionFault.TheVariants.{Memory}
use Rattle.image_files.specs.Judging.{Judges}
use Rattle.image_files.specs.Reading.{FindsOne, JudgesOpened, Looks}
use Rattle.image_files.specs.Work.{Then}
use Rattle.image_files.specs.declared.images.Image.{Image}
use Rattle.image_files.specs.declared.reading.ImagePlace.{ImagePlace}

-- a command ends since memory is wanted
abbrev pub EndsForMemory : Ending → Type 0
EndsForMemory ending = (ending ≡ Fault Memory) ⊎ (ending ≡ Line (line.Disk disk.Memory))

-- Two image files are asked for alike, whatever their names are: the same volume is named, or none, and both are judged or neither.
abbrev pub AreAlike : ImageForm → ImageForm → Type 0
AreAlike one other = (other.layout ≡ one.layout) × (other.is_plain ≡ one.is_plain)

-- what is done with a file of these bytes that was only looked at: one that may be read in two ways is refused, and then its volume is found
abbrev pub LooksIn : ImageForm → List ℕ → List Event → Result (Vec ℕ) Ending → List Event → Type 0
LooksIn form file = Then (Judges form.file.bytes.items form.layout form.is_plain file) (λ it. FindsOne form.layout form.is_plain file)

-- the file is looked at first
abbrev pub LooksAndFinds : ImageForm → List Event → Result (Vec ℕ) Ending → List Event → Type 0
LooksAndFinds form = Then (Looks form.file.bytes.items form.file.bytes.items) (λ file. LooksIn form file.items)

-- an image that is opened has these bytes, or memory is wanted
abbrev pub OpensAs : List ℕ → Result Image Ending → Type 0
OpensAs bytes (Ok image) = image.bytes.items ≡ bytes
OpensAs bytes (Err ending) = EndsForMemory ending

-- these bytes are found, or memory is wanted
abbrev pub FindsAs : List ℕ → Result (Vec ℕ) Ending → Type 0
FindsAs bytes (Ok found) = found.items ≡ bytes
FindsAs bytes (Err ending) = EndsForMemory ending

-- A file has these bytes of an image for whoever opens it or looks at it by such a form, or memory is wanted. It has one reading, and so it is
-- refused by nobody, and no note is printed.
pub record IsFoundAgain (form : ImageForm) (file bytes : List ℕ) : Type 0 where
  pub single : two_readings form.layout form.is_plain file ≡ None
  pub opened : (again : ImageForm) (place : ImagePlace) (old new : List Event) (result : Result Image Ending) → AreAlike form again
      → JudgesOpened place again file old result new → OpensAs bytes result × (new ≡ old)
  pub looked : (again : ImageForm) (old new : List Event) (result : Result (Vec ℕ) Ending) → AreAlike form again
      → LooksIn again file old result new → FindsAs bytes result × (new ≡ old)
