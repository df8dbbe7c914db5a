-- The refusals whose lines are those of a patch alone (this project's profile).
use Rattle.std.specs.Prelude.{◌⊎◌, ℕ, Ok, Err, List}
use Rattle.hosts.specs.Event.{Event}
use Rattle.outcome.specs.declared.endings.Ending.{Ending}
use Rattle.outcome.specs.declared.endings.Ending.TheVariants.{Failure, FullOutput, NoReader}
use Rattle.image_files.specs.Saving.{Prints}

-- a line is printed, and the command ends with the status of a refusal, also where nobody reads it; or standard output does not take the line
abbrev pub EndsWith : List ℕ → List Event → Ending → List Event → Type 0
EndsWith line old Failure new = Prints line old (Ok tt) new ⊎ Prints line old (Err NoReader) new
EndsWith line old FullOutput new = Prints line old (Err FullOutput) new
EndsWith line old _ new = ⊥
