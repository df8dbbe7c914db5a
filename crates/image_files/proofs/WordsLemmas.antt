-- What refuses information words, or notes their year, has changed no file.
use Rattle.std.proofs.Common.{ℕ, Bool, true, false, nat_eq, Option, None, Some, Ok, Err, List, [], ◌∷◌, length}
use Rattle.volume_image.specs.Image.{block_word}
use Rattle.os8_dates.specs.Dates.{date_in, last_year}
use Rattle.os8_dates.specs.declared.dates.Date.{Date}
use Rattle.archive_many.specs.Opened.{OpensVolume, information_on}
use Rattle.archive_many.specs.declared.putting.NewFile.{NewFile}
use Rattle.image_files.specs.Information.{FitsWords, TakesIf, TakesWords}
use Rattle.image_files.specs.Saving.{IsDone}
use Rattle.image_files.specs.Answers.{Answers}
use Rattle.image_files.specs.Work.{Purely}
use Rattle.image_files.specs.Laws.{KeepsFiles}
use Rattle.image_files.proofs.KeepLemmas.{then-keeps, purely-keeps}
use Rattle.image_files.proofs.LeaveLemmas.{answers-never, same, told}
use Rattle.image_files.specs.Years.{NotesFiles, NotesYear, TellsDate, TellsFiles, TellsShown, TellsUnless, is_same_year, last_for}

takes-if : (none : Bool) (wanted : ℕ) (image : List ℕ) → KeepsFiles (TakesIf none wanted image)
takes-if true wanted image = purely-keeps IsDone
takes-if false wanted image = then-keeps (Answers (OpensVolume image) (length image)) (λ blocks. Purely (FitsWords wanted (information_on blocks)))
    (answers-never (OpensVolume image) (length image)) (λ blocks. purely-keeps (FitsWords wanted (information_on blocks)))

pub words-never : (wanted : ℕ) (image : List ℕ) → KeepsFiles (TakesWords wanted image)
words-never wanted image = takes-if (nat_eq wanted 0) wanted image

tells-unless : (same : Bool) (word : ℕ) (wanted shown : Option Date) (own : ℕ) → KeepsFiles (TellsUnless same word wanted shown own)
tells-unless true word wanted shown own old result new p = purely-keeps IsDone old result new p
tells-unless false word wanted shown own old (Ok it) new (ok, p) = told ok _ old new p
tells-unless false word wanted shown own old (Err ending) new (is, p) = same old new p

tells-shown : (word last own : ℕ) → KeepsFiles (TellsShown word last own)
tells-shown word last own = tells-unless (is_same_year (date_in own word) (date_in last word)) word (date_in own word) (date_in last word) own

pub year-never : (image info : List ℕ) (year : Option ℕ) → KeepsFiles (NotesYear image info year)
year-never image [] year = purely-keeps IsDone
year-never image (word ∷ words) None = purely-keeps IsDone
year-never image (word ∷ words) (Some year) = then-keeps (Answers (OpensVolume image) (length image)) (λ blocks. TellsShown word (last_year (block_word blocks 0 0o377)) (last_for year))
    (answers-never (OpensVolume image) (length image)) (λ blocks. tells-shown word (last_year (block_word blocks 0 0o377)) (last_for year))

tells-date : (last : ℕ) (date year : Option ℕ) → KeepsFiles (TellsDate last date year)
tells-date last None year = purely-keeps IsDone
tells-date last (Some word) None = purely-keeps IsDone
tells-date last (Some word) (Some year) = tells-shown word last (last_for year)

tells-files : (last : ℕ) (files : List NewFile) → KeepsFiles (TellsFiles last files)
tells-files last [] = purely-keeps IsDone
tells-files last (file ∷ files) = then-keeps (TellsDate last file.date file.year) (λ it. TellsFiles last files) (tells-date last file.date file.year) (λ it. tells-files last files)

pub files-never : (image : List ℕ) (files : List NewFile) → KeepsFiles (NotesFiles image files)
files-never image files = then-keeps (Answers (OpensVolume image) (length image)) (λ blocks. TellsFiles (last_year (block_word blocks 0 0o377)) files)
    (answers-never (OpensVolume image) (length image)) (λ blocks. tells-files (last_year (block_word blocks 0 0o377)) files)
