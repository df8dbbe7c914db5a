-- The commands that print what an image has.
use Rattle.std.specs.Prelude.{Result, List, length, ℕ}
use Rattle.std.specs.Global.{Vec}
use Rattle.hosts.specs.Event.{Event}
use Rattle.archive_files.specs.declared.faults.ArchiveFault.{ArchiveFault}
use Rattle.outcome.specs.declared.endings.Ending.{Ending}
use Rattle.program_tasks.specs.declared.forms.ImageForm.{ImageForm}
use Rattle.image_files.specs.Work.{Then}
use Rattle.image_files.specs.Reading.{LooksAt}
use Rattle.image_files.specs.Answers.{Answers}
use Rattle.image_files.specs.Saving.{Prints}

-- An image file is read, and what its bytes give is printed, with nothing else on standard output. No file changes.
abbrev pub Shows : (List ℕ → Result (Vec ℕ) ArchiveFault → Type 0) → ImageForm → List Event → Result (Unit {0}) Ending → List Event → Type 0
Shows gives form = Then (LooksAt form) (λ image. Then (Answers (gives image.items) (length image.items)) (λ bytes. Prints bytes.items))
