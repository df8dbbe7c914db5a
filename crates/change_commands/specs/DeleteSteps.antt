-- What a step of deleting does. No contract of a public function cites this.
use Rattle.std.specs.Prelude.{ℕ, List}
use Rattle.hosts.specs.Event.{Event}
use Rattle.archive_files.specs.Asking.{Target}
use Rattle.archive_files.specs.declared.faults.DeleteFault.{DeleteFault}
use Rattle.outcome.specs.declared.endings.Ending.{Ending}
use Rattle.image_files.specs.Work.{OrLacks}
use Rattle.change_commands.specs.Deleting.{RefusesFile}

-- why no file is taken out; where memory is wanted for the note, that
abbrev pub IsNotTaken : List Target → DeleteFault → ℕ → List Event → Ending → List Event → Type 0
IsNotTaken wanted fault size = OrLacks (RefusesFile wanted fault size)
