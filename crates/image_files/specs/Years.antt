-- Dates that a volume shows as those of other years.
use Rattle.std.specs.Prelude.{◌≡◌, ℕ, ◌&&◌, ◌++◌, nat_eq, nat_le, Bool, true, false, if◌then◌else◌, codes, decimal, Option, None, Some, Result, Ok, Err, List, [], ◌∷◌, length}
use Rattle.hosts.specs.Event.{Event, tell_call}
use Rattle.volume_image.specs.Image.{block_word}
use Rattle.os8_dates.specs.Dates.{date_in, last_year}
use Rattle.os8_dates.specs.Spelling.{or_octal}
use Rattle.os8_dates.specs.declared.dates.Date.{Date}
use Rattle.os8_dates.specs.declared.years.TheConstants.{LAST_YEAR, LEAST_LAST}
use Rattle.archive_many.specs.Opened.{OpensVolume}
use Rattle.archive_many.specs.declared.putting.NewFile.{NewFile}
use Rattle.outcome.specs.Notes.{name_text}
use Rattle.outcome.specs.declared.notes.NameNote.TheVariants.{Hint}
use Rattle.outcome.specs.declared.endings.Ending.{Ending}
use Rattle.image_files.specs.Answers.{Answers}
use Rattle.image_files.specs.Saving.{IsDone}
use Rattle.image_files.specs.Work.{Then, Purely, Lacks}

-- the last of eight years that have a year, as `--year` takes it
abbrev pub last_for : ℕ → ℕ
last_for year = if nat_le LEAST_LAST year && nat_le year LAST_YEAR then year else LEAST_LAST

-- ## The text

abbrev pub year_hint : ℕ → Option Date → Option Date → ℕ → List ℕ
year_hint word wanted shown own = or_octal wanted word ++ (codes " is shown as " ++ (or_octal shown word ++ (codes ": --year " ++ (decimal own ++ codes " shows it so"))))

-- ## What is printed

abbrev pub is_of_year : ℕ → Option Date → Bool
is_of_year year None = false
is_of_year year (Some date) = nat_eq date.year year

-- a date is shown as it is, if there is one
abbrev pub is_same_year : Option Date → Option Date → Bool
is_same_year None shown = true
is_same_year (Some date) shown = is_of_year date.year shown

abbrev pub TellsHint : ℕ → Option Date → Option Date → ℕ → List Event → Result (Unit {0}) Ending → List Event → Type 0
TellsHint word wanted shown own old (Ok it) new = (ok : Bool) × (new ≡ tell_call ok (name_text Hint (year_hint word wanted shown own)) ∷ old)
TellsHint word wanted shown own old (Err ending) new = Lacks old ending new

abbrev pub TellsUnless : Bool → ℕ → Option Date → Option Date → ℕ → List Event → Result (Unit {0}) Ending → List Event → Type 0
TellsUnless true word wanted shown own = Purely IsDone
TellsUnless false word wanted shown own = TellsHint word wanted shown own

-- a word that is a date of the eight years up to its own last one is shown as one of those up to another last one
abbrev pub TellsShown : ℕ → ℕ → ℕ → List Event → Result (Unit {0}) Ending → List Event → Type 0
TellsShown word last own = TellsUnless (is_same_year (date_in own word) (date_in last word)) word (date_in own word) (date_in last word) own

-- the volume in an image says which years it shows
abbrev pub NotesGiven : List ℕ → ℕ → ℕ → List Event → Result (Unit {0}) Ending → List Event → Type 0
NotesGiven image word own = Then (Answers (OpensVolume image) (length image)) (λ blocks. TellsShown word (last_year (block_word blocks 0 0o377)) own)

-- how the first information word that is given for a date of a year will be shown, if it is shown as that of another year
abbrev pub NotesYear : List ℕ → List ℕ → Option ℕ → List Event → Result (Unit {0}) Ending → List Event → Type 0
NotesYear image [] year = Purely IsDone
NotesYear image (word ∷ words) None = Purely IsDone
NotesYear image (word ∷ words) (Some year) = NotesGiven image word (last_for year)

-- ## Dates of files of the host

-- how a date of a year is shown among those up to a last one, if it is shown as one of another year
abbrev pub TellsDate : ℕ → Option ℕ → Option ℕ → List Event → Result (Unit {0}) Ending → List Event → Type 0
TellsDate last None year = Purely IsDone
TellsDate last (Some word) None = Purely IsDone
TellsDate last (Some word) (Some year) = TellsShown word last (last_for year)

-- each date of these files, in their order
abbrev pub TellsFiles : ℕ → List NewFile → List Event → Result (Unit {0}) Ending → List Event → Type 0
TellsFiles last [] = Purely IsDone
TellsFiles last (file ∷ files) = Then (TellsDate last file.date file.year) (λ it. TellsFiles last files)

-- the volume in an image says which years it shows
abbrev pub NotesFiles : List ℕ → List NewFile → List Event → Result (Unit {0}) Ending → List Event → Type 0
NotesFiles image files = Then (Answers (OpensVolume image) (length image)) (λ blocks. TellsFiles (last_year (block_word blocks 0 0o377)) files)
