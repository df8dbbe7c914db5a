-- What steps of choosing files do. No contract of a public function cites these.
use Rattle.std.specs.Prelude.{List, Option}
use Rattle.hosts.specs.Event.{Event}
use Rattle.refusals.specs.declared.faults.SessionFault.TheVariants.{File}
use Rattle.os8_dir.specs.declared.file_faults.FileFault.{FileFault}
use Rattle.archive_files.specs.Asking.{Target}
use Rattle.archive_many.specs.declared.wishes.Wish.{Wish}
use Rattle.outcome.specs.declared.endings.Ending.{Ending}
use Rattle.outcome.specs.declared.endings.Ending.TheVariants.{Fault}
use Rattle.program_tasks.specs.declared.forms.DeleteForm.{DeleteForm}
use Rattle.image_files.specs.Work.{OrLacks, EndsBy}
use Rattle.change_commands.specs.Choosing.{RefusesWish, TellsRefused}

-- a word or a block of no file is refused; where memory is wanted for the note, that
abbrev pub IsRefused : DeleteForm → Wish → List Event → Ending → List Event → Type 0
IsRefused form one = OrLacks (RefusesWish form one)

-- the same of one target
abbrev pub IsToldOf : Option Target → FileFault → List Event → Ending → List Event → Type 0
IsToldOf target why = OrLacks (EndsBy (Fault (File why)) (TellsRefused target))
