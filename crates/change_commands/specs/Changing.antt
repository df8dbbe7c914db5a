-- The commands that change the files of a volume by their names.
use Rattle.std.specs.Prelude.{◌≡◌, ℕ, Result, Ok, Err, List, length}
use Rattle.hosts.specs.Event.{Event}
use Rattle.archive_files.specs.Asking.{Target}
use Rattle.archive_files.specs.Renaming.{RenamesFile}
use Rattle.archive_files.specs.Squeezing.{SqueezesFiles}
use Rattle.archive_files.specs.declared.faults.RenameFault.{RenameFault}
use Rattle.archive_files.specs.declared.faults.RenameFault.TheVariants.{Archive, Exists}
use Rattle.archive_files.specs.declared.renaming.RenamedImage.{RenamedImage}
use Rattle.program_reports.specs.Program.{program_line}
use Rattle.program_reports.specs.declared.programs.ProgramLine.TheVariants as line
use Rattle.outcome.specs.declared.endings.Ending.{Ending}
use Rattle.outcome.specs.declared.endings.Ending.TheVariants.{Line}
use Rattle.program_tasks.specs.declared.forms.ImageForm.{ImageForm}
use Rattle.image_files.specs.Work.{Then, Purely}
use Rattle.image_files.specs.Reading.{Opens}
use Rattle.image_files.specs.Answers.{Answers, AreLines, Refuses}
use Rattle.image_files.specs.Saving.{Stores}

-- An image file is held and read. The new image that its bytes give is saved, and only then the lines are printed that report it.
abbrev pub Changes : {A : Type 0} → (List ℕ → List Event → Result A Ending → List Event → Type 0) → (A → List ℕ) → (A → List ℕ) → ImageForm → List Event → Result (Unit {0}) Ending → List Event → Type 0
Changes answers image_of lines_of form = Then (Opens form) (λ image. Then (answers image.bytes.items) (λ made. Then (Purely (AreLines (lines_of made))) (λ lines. Stores image (image_of made) lines.items)))

-- the files of the volume are moved together
abbrev pub Squeezes : ImageForm → List Event → Result (Unit {0}) Ending → List Event → Type 0
Squeezes = Changes (λ image. Answers (SqueezesFiles image) (length image)) (λ made. made.bytes.items) (λ made. program_line (line.Squeezed made.move_count))

abbrev pub RefusesName : RenameFault → ℕ → List Event → Ending → List Event → Type 0
RefusesName (Archive fault) size old ending new = Refuses fault size old ending new
RefusesName Exists size old ending new = (ending ≡ Line line.Exists) × (new ≡ old)

-- the image in which a file has another name, or why it has not
abbrev pub GivesName : Target → List ℕ → List ℕ → List Event → Result RenamedImage Ending → List Event → Type 0
GivesName wanted other image old (Ok it) new = RenamesFile image wanted other (Ok it) × (new ≡ old)
GivesName wanted other image old (Err ending) new = (fault : RenameFault) × RenamesFile image wanted other (Err fault) × RefusesName fault (length image) old ending new

-- a file of the volume gets another name
abbrev pub Renames : Target → List ℕ → ImageForm → List Event → Result (Unit {0}) Ending → List Event → Type 0
Renames wanted other = Changes (GivesName wanted other) (λ made. made.bytes.items) (λ made. program_line (line.Renamed made.old_name made.new_name))
