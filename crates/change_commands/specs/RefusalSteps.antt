-- What steps of refusing do. No contract of a public function cites these.
use Rattle.std.specs.Prelude.{ℕ, Option, List}
use Rattle.hosts.specs.Event.{Event}
use Rattle.os8_dir.specs.declared.file_faults.FileFault.{FileFault}
use Rattle.refusals.specs.declared.faults.SessionFault.TheVariants.{File}
use Rattle.archive_many.specs.declared.wishes.Wish.{Wish}
use Rattle.archive_many.specs.declared.opened.VolumeFile.{VolumeFile}
use Rattle.outcome.specs.declared.endings.Ending.{Ending}
use Rattle.outcome.specs.declared.endings.Ending.TheVariants.{Fault, Line}
use Rattle.program_reports.specs.declared.programs.ProgramLine.TheVariants.{CopyExists}
use Rattle.program_tasks.specs.declared.forms.CopyChoice.{CopyChoice}
use Rattle.image_files.specs.Work.{OrLacks, EndsBy}
use Rattle.change_commands.specs.Refusing.{RefusesWish, TellsFile, TellsWord}

-- a word is refused, and printed; where memory is wanted for the note, that
abbrev pub IsToldOf : Option (List ℕ) → FileFault → List Event → Ending → List Event → Type 0
IsToldOf word why = OrLacks (EndsBy (Fault (File why)) (TellsWord word))

abbrev pub IsRefused : List (List ℕ) → Wish → List Event → Ending → List Event → Type 0
IsRefused words one = OrLacks (RefusesWish words one)

-- a file of the name of one that is to be copied is there
abbrev pub IsOlder : CopyChoice → VolumeFile → List Event → Ending → List Event → Type 0
IsOlder files file = OrLacks (EndsBy (Line CopyExists) (TellsFile files file))
