-- Commands that change no file at all.
use Rattle.std.proofs.Common.{ℕ, Result, Ok, Err, List, inl, inr, length}
use Rattle.std.specs.Global.{Vec}
use Rattle.hosts.specs.Event.{Event}
use Rattle.archive_files.specs.declared.forms.GetForm.TheVariants.{Frames}
use Rattle.archive_files.specs.declared.faults.ArchiveFault.{ArchiveFault}
use Rattle.archive_files.specs.Getting.{Gets}
use Rattle.archive_many.specs.declared.faults.BlocksFault.{BlocksFault}
use Rattle.archive_many.specs.declared.faults.BlocksFault.TheVariants.{Archive, NoBlocks}
use Rattle.program_reports.specs.Program.{program_line}
use Rattle.program_reports.specs.declared.programs.ProgramLine.TheVariants as line
use Rattle.program_tasks.specs.declared.forms.BlocksForm.{BlocksForm}
use Rattle.archive_files.specs.declared.asking.Asked.{Asked}
use Rattle.program_tasks.specs.declared.forms.ImageForm.{ImageForm}
use Rattle.image_files.specs.Answers.{Answers, AreLines, RefusesBlocks}
use Rattle.image_files.specs.Ending.{TellsLine}
use Rattle.image_files.specs.Reading.{LooksAt}
use Rattle.image_files.specs.Saving.{Prints}
use Rattle.get_commands.specs.Showing.{Shows}
use Rattle.archive_files.specs.Asking.{target_of}
use Rattle.get_commands.specs.ShowingParts.{EndsTelling, GivesBlocks, GivesTape, PrintsTape, ShowsBlocks, ShowsTape}
use Rattle.image_files.specs.Work.{Then, Purely}
use Rattle.image_files.specs.Laws.{KeepsFiles, ChangesNothing}
use Rattle.image_files.proofs.KeepLemmas.{then-keeps, purely-keeps, prints-keeps, looks-at-keeps}
use Rattle.image_files.proofs.LeaveLemmas.{same, refuses-never, answers-never}

pub shows-never : (gives : List ℕ → Result (Vec ℕ) ArchiveFault → Type 0) (form : ImageForm) → KeepsFiles (Shows gives form)
shows-never gives form = then-keeps (LooksAt form) (λ image. Then (Answers (gives image.items) (length image.items)) (λ bytes. Prints bytes.items)) (looks-at-keeps form)
    (λ image. then-keeps (Answers (gives image.items) (length image.items)) (λ bytes. Prints bytes.items) (answers-never (gives image.items) (length image.items)) (λ bytes. prints-keeps bytes.items))

gives-blocks-never : (form : BlocksForm) (image : List ℕ) → KeepsFiles (GivesBlocks form image)
gives-blocks-never form image old (Ok bytes) new p = same old new p.1
gives-blocks-never form image old (Err ending) new (why, gets, p) = refused why p
  where
    refused : (fault : BlocksFault) → RefusesBlocks fault (length image) old ending new → ChangesNothing old new
    refused (Archive fault) r = refuses-never fault (length image) old ending new r
    refused (NoBlocks has) r = same old new r.1

pub blocks-never : (form : BlocksForm) → KeepsFiles (ShowsBlocks form)
blocks-never form = then-keeps (LooksAt form.image) (λ image. Then (GivesBlocks form image.items) (λ bytes. Prints bytes.items)) (looks-at-keeps form.image)
    (λ image. then-keeps (GivesBlocks form image.items) (λ bytes. Prints bytes.items) (gives-blocks-never form image.items) (λ bytes. prints-keeps bytes.items))

tells-line-never : (text : List ℕ) (old new : List Event) → TellsLine text old new → ChangesNothing old new
tells-line-never text old new (inl (is, ok, p)) = same _ new p
tells-line-never text old new (inr p) = same old new p.1

ends-telling-never : (text : List ℕ) → KeepsFiles (EndsTelling text)
ends-telling-never text old result new p = tells-line-never text old new p.1

prints-tape-never : (bin : Vec ℕ × ℕ) → KeepsFiles (PrintsTape bin)
prints-tape-never bin = then-keeps (Purely (AreLines (program_line (line.Start bin.1)))) (λ start. Then (Prints bin.0.items) (λ it. EndsTelling start.items)) (purely-keeps (AreLines (program_line (line.Start bin.1))))
    (λ start. then-keeps (Prints bin.0.items) (λ it. EndsTelling start.items) (prints-keeps bin.0.items) (λ it. ends-telling-never start.items))

pub tape-never : (file : Asked) (form : ImageForm) → KeepsFiles (ShowsTape file form)
tape-never file form =
    then-keeps (LooksAt form) (λ image. Then (Answers (Gets image.items (target_of file) Frames) (length image.items)) (λ frames. Then (Purely (GivesTape frames.items)) PrintsTape)) (looks-at-keeps form)
    (λ image. then-keeps (Answers (Gets image.items (target_of file) Frames) (length image.items)) (λ frames. Then (Purely (GivesTape frames.items)) PrintsTape)
    (answers-never (Gets image.items (target_of file) Frames) (length image.items))
    (λ frames. then-keeps (Purely (GivesTape frames.items)) PrintsTape (purely-keeps (GivesTape frames.items)) prints-tape-never))
