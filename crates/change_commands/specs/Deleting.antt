-- The command that takes files out of the volume in an image file.
use Rattle.std.specs.Prelude.{◌≡◌, ◌⊎◌, ℕ, Result, Ok, Err, List, [], ◌∷◌, ◌++◌, length, map}
use Rattle.hosts.specs.Event.{Event}
use Rattle.program_reports.specs.Program.{program_line}
use Rattle.refusals.specs.declared.faults.SessionFault.TheVariants.{File}
use Rattle.program_reports.specs.declared.programs.ProgramLine.TheVariants as line
use Rattle.archive_files.specs.Asking.{Target, target_of}
use Rattle.archive_files.specs.Deleting.{DeletesFiles}
use Rattle.archive_files.specs.declared.deleting.DeletedImage.{DeletedImage}
use Rattle.archive_files.specs.declared.faults.DeleteFault.{DeleteFault}
use Rattle.archive_files.specs.declared.faults.DeleteFault.TheVariants.{Archive, Name}
use Rattle.outcome.specs.declared.endings.Ending.{Ending}
use Rattle.outcome.specs.declared.endings.Ending.TheVariants.{Fault}
use Rattle.program_tasks.specs.declared.forms.DeleteForm.{DeleteForm}
use Rattle.image_files.specs.Work.{Then, Lacks}
use Rattle.image_files.specs.Answers.{Refuses}
use Rattle.change_commands.specs.Choosing.{MeansFiles, TellsRefused, one_of_several}
use Rattle.change_commands.specs.Changing.{Changes}

-- why no file is taken out of an image of so many bytes
abbrev pub RefusesFile : List Target → DeleteFault → ℕ → List Event → Ending → List Event → Type 0
RefusesFile wanted (Archive fault) size old ending new = Refuses fault size old ending new
RefusesFile wanted (Name place fault) size old ending new = (ending ≡ Fault (File fault)) × TellsRefused (one_of_several wanted place) old new

-- the image without the files, all of them, or why it has them all
abbrev pub TakesOut : List Target → List ℕ → List Event → Result DeletedImage Ending → List Event → Type 0
TakesOut wanted image old (Ok it) new = DeletesFiles image wanted (Ok it) × (new ≡ old)
TakesOut wanted image old (Err ending) new =
    ((fault : DeleteFault) × DeletesFiles image wanted (Err fault) × RefusesFile wanted fault (length image) old ending new)
    ⊎ Lacks old ending new

-- the line of each file that was taken out
abbrev pub deleted_lines : List ℕ → List ℕ
deleted_lines [] = []
deleted_lines (name ∷ names) = program_line (line.Deleted name) ++ deleted_lines names

-- the image without the files that are meant, all of them, or why it has them all
abbrev pub TakesMeant : DeleteForm → List ℕ → List Event → Result DeletedImage Ending → List Event → Type 0
TakesMeant form image = Then (MeansFiles form image) (λ files. TakesOut (map target_of files.items) image)

-- the files that are meant are taken out of the volume, all or none
abbrev pub Deletes : DeleteForm → List Event → Result (Unit {0}) Ending → List Event → Type 0
Deletes form = Changes (TakesMeant form) (λ made. made.bytes.items) (λ made. deleted_lines made.names.items) form.image
