-- The commands that print blocks of an image, or the BIN tape of a core image on its volume.
use Rattle.std.specs.Prelude.{◌≡◌, ℕ, Result, Ok, Err, List, length}
use Rattle.std.specs.Global.{Vec}
use Rattle.hosts.specs.Event.{Event}
use Rattle.char_pack.specs.Packing.{words_of_bytes}
use Rattle.core_image.specs.Converted.{IsBinOf}
use Rattle.core_image.specs.declared.faults.CoreFault.{CoreFault}
use Rattle.archive_files.specs.Getting.{Gets}
use Rattle.archive_files.specs.declared.forms.GetForm.TheVariants.{Frames}
use Rattle.archive_many.specs.Raw.{GetsBlocks}
use Rattle.archive_many.specs.declared.faults.BlocksFault.{BlocksFault}
use Rattle.program_reports.specs.Cores.{IsCoreFault}
use Rattle.program_reports.specs.Program.{program_line}
use Rattle.program_reports.specs.declared.programs.ProgramLine.TheVariants as line
use Rattle.outcome.specs.declared.endings.Ending.{Ending}
use Rattle.outcome.specs.declared.endings.Ending.TheVariants.{Line}
use Rattle.program_tasks.specs.declared.forms.BlocksForm.{BlocksForm}
use Rattle.archive_files.specs.declared.asking.Asked.{Asked}
use Rattle.program_tasks.specs.declared.forms.ImageForm.{ImageForm}
use Rattle.image_files.specs.Work.{Then, Purely}
use Rattle.image_files.specs.Reading.{LooksAt}
use Rattle.image_files.specs.Answers.{Answers, AreLines, RefusesBlocks}
use Rattle.image_files.specs.Ending.{TellsLine}
use Rattle.image_files.specs.Saving.{Prints, IsDone}
use Rattle.archive_files.specs.Asking.{target_of}

-- what blocks of an image give, whatever its directory says, or why nothing
abbrev pub GivesBlocks : BlocksForm → List ℕ → List Event → Result (Vec ℕ) Ending → List Event → Type 0
GivesBlocks form image old (Ok bytes) new = GetsBlocks image form.first form.count form.form (Ok bytes) × (new ≡ old)
GivesBlocks form image old (Err ending) new = (fault : BlocksFault) × GetsBlocks image form.first form.count form.form (Err fault) × RefusesBlocks fault (length image) old ending new

-- An image file is read, and what blocks of it give is printed, with nothing else on standard output. No file changes.
abbrev pub ShowsBlocks : BlocksForm → List Event → Result (Unit {0}) Ending → List Event → Type 0
ShowsBlocks form = Then (LooksAt form.image) (λ image. Then (GivesBlocks form image.items) (λ bytes. Prints bytes.items))

-- the BIN tape of a core image, and where its program starts
abbrev pub GivesTape : List ℕ → Result (Vec ℕ × ℕ) Ending → Type 0
GivesTape frames (Ok bin) = IsBinOf (words_of_bytes frames) bin.0.items bin.1
GivesTape frames (Err ending) = (fault : CoreFault) × (ending ≡ Line (line.Core fault)) × IsCoreFault frames fault

-- a line is printed on standard error, which ends the command
abbrev pub EndsTelling : List ℕ → List Event → Result (Unit {0}) Ending → List Event → Type 0
EndsTelling line old result new = IsDone result × TellsLine line old new

-- a tape is printed, and then the line of where its program starts, on standard error
abbrev pub PrintsTape : Vec ℕ × ℕ → List Event → Result (Unit {0}) Ending → List Event → Type 0
PrintsTape bin = Then (Purely (AreLines (program_line (line.Start bin.1)))) (λ start. Then (Prints bin.0.items) (λ it. EndsTelling start.items))

-- An image file is read. The BIN tape of the core image that a file of its volume is, is printed, with nothing else on standard output, and
-- then where its program starts. No file changes.
abbrev pub ShowsTape : Asked → ImageForm → List Event → Result (Unit {0}) Ending → List Event → Type 0
ShowsTape file form = Then (LooksAt form) (λ image. Then (Answers (Gets image.items (target_of file) Frames) (length image.items)) (λ frames. Then (Purely (GivesTape frames.items)) PrintsTape))
