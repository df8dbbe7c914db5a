-- Whether a volume has room for information words.
use Rattle.std.specs.Prelude.{◌≡◌, ◌≤◌, ◌<◌, ℕ, nat_eq, Bool, true, false, Result, Ok, Err, List, length}
use Rattle.hosts.specs.Event.{Event}
use Rattle.archive_many.specs.Opened.{OpensVolume, information_on}
use Rattle.program_reports.specs.declared.programs.ProgramLine.TheVariants as line
use Rattle.outcome.specs.declared.endings.Ending.{Ending}
use Rattle.outcome.specs.declared.endings.Ending.TheVariants.{Line}
use Rattle.image_files.specs.Answers.{Answers}
use Rattle.image_files.specs.Saving.{IsDone}
use Rattle.image_files.specs.Work.{Then, Purely}

-- no more information words are wanted than there are; else the line says how many there are
abbrev pub FitsWords : ℕ → ℕ → Result (Unit {0}) Ending → Type 0
FitsWords wanted count (Ok it) = wanted ≤ count
FitsWords wanted count (Err ending) = (count < wanted) × (ending ≡ Line (line.OnlyWords count))

-- the volume is read only where any are wanted
abbrev pub TakesIf : Bool → ℕ → List ℕ → List Event → Result (Unit {0}) Ending → List Event → Type 0
TakesIf true wanted image = Purely IsDone
TakesIf false wanted image = Then (Answers (OpensVolume image) (length image)) (λ blocks. Purely (FitsWords wanted (information_on blocks)))

-- each file of the volume in an image has as many information words as are wanted, or more
abbrev pub TakesWords : ℕ → List ℕ → List Event → Result (Unit {0}) Ending → List Event → Type 0
TakesWords wanted image = TakesIf (nat_eq wanted 0) wanted image
