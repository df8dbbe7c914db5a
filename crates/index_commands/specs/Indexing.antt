-- The command that writes the index of many images (this project's profile).
use Rattle.std.specs.Prelude.{◌≡◌, ◌⊎◌, ℕ, ◌+◌, Bool, true, false, not, codes, Option, None, Result, Ok, Err, List, [], ◌∷◌, length, map}
use Rattle.std.specs.Global.{Vec}
use Rattle.hosts.specs.Event.{Event, tell_call}
use Rattle.disk_layouts.specs.declared.layouts.Layout.{Layout}
use Rattle.name_spelling.specs.Patterns.{is_choice}
use Rattle.archive_files.specs.declared.faults.ArchiveFault.{ArchiveFault}
use Rattle.volume_index.specs.Indexing.{Indexes as GivesLines}
use Rattle.volume_index.specs.declared.styles.IndexStyle.{IndexStyle}
use Rattle.outcome.specs.declared.endings.Ending.{Ending}
use Rattle.outcome.specs.declared.endings.Ending.TheVariants.{Failure, Misuse}
use Rattle.image_files.specs.Leftovers.{ChoosesImages}
use Rattle.image_files.specs.Answers.{Refuses}
use Rattle.image_files.specs.Work.{After, Then, Purely}
use Rattle.image_files.specs.declared.mending.ImageReading.{ImageReading}
use Rattle.image_files.specs.Reading.{LooksImage, file_named, reading_named}
use Rattle.host_progress.specs.Progressing.{TellsProgress, WithProgress}
use Rattle.index_commands.specs.Columns.{ChoosesColumns}
use Rattle.index_commands.specs.declared.columns.Columns.{Columns}
use Rattle.index_commands.specs.declared.columns.LineShape.{LineShape}
use Rattle.index_commands.specs.Found.{IsFound, ShowsSame, TakesLines}
use Rattle.index_commands.specs.declared.found.Found.{Found}
use Rattle.index_commands.specs.Refusing.{RefusesVolume}
use Rattle.index_commands.specs.Volumes.{IsImageAt, IsNoImage, body_of, layouts_in, number_of}

-- ## A volume

-- The lines of the files that are wanted of the volume that lies so in these bytes, or why there are none. The reason is that it doesn't lie there,
-- or is refused as a plain list of it is, and then what may help is printed.
abbrev pub GivesIndex : IndexStyle → List ℕ → List ℕ → Option Layout → List Event → Result (Vec ℕ) Ending → List Event → Type 0
GivesIndex style name bytes layout old (Ok lines) new = (image : List ℕ) × IsImageAt layout bytes image × GivesLines style name (number_of layout) image (Ok lines) × (new ≡ old)
GivesIndex style name bytes layout old (Err ending) new = (IsNoImage layout bytes ending × (new ≡ old))
    ⊎ ((image : List ℕ) × IsImageAt layout bytes image × (fault : ArchiveFault) × GivesLines style name (number_of layout) image (Err fault) × Refuses fault (length image) old ending new)

-- its lines are taken, or the volume is passed over
abbrev pub ShowsIndex : Columns → List ℕ → Option ℕ → Result (Vec ℕ) Ending → Bool → List ℕ → List Event → Result Found Ending → List Event → Type 0
ShowsIndex columns name number (Ok lines) is_refused kept = TakesLines columns.shape.is_same columns is_refused kept lines.items
ShowsIndex columns name number (Err ending) is_refused kept = RefusesVolume name number ending kept

-- The index of a volume is made whole before a line of it is taken. Before it a volume may be refused, and lines wait.
abbrev pub IndexesVolume : Columns → IndexStyle → List ℕ → List ℕ → Option Layout → Bool → List ℕ → List Event → Result Found Ending → List Event → Type 0
IndexesVolume columns style name bytes layout is_refused kept old result new =
    (lines : Result (Vec ℕ) Ending) × (between : List Event) × GivesIndex style name bytes layout old lines between × ShowsIndex columns name (number_of layout) lines is_refused kept between result new

-- ## A file

-- its volumes, one after the other
abbrev pub IndexesVolumes : Columns → IndexStyle → List ℕ → List ℕ → List (Option Layout) → Bool → List ℕ → List Event → Result Found Ending → List Event → Type 0
IndexesVolumes columns style name bytes [] is_refused kept = Purely (IsFound is_refused kept)
IndexesVolumes columns style name bytes (layout ∷ layouts) is_refused kept =
    Then (IndexesVolume columns style name bytes layout is_refused kept) (λ found. IndexesVolumes columns style name bytes layouts found.is_refused found.lines.items)

-- those of a file that was read; one that can't be read is passed over
abbrev pub IndexesRead : Columns → IndexStyle → Option Layout → Bool → List ℕ → Result (Vec ℕ) Ending → Bool → List ℕ → List Event → Result Found Ending → List Event → Type 0
IndexesRead columns style layout is_plain name (Ok file) is_refused kept = IndexesVolumes columns style name (body_of layout is_plain file.items) (layouts_in layout is_plain file.items) is_refused kept
IndexesRead columns style layout is_plain name (Err ending) is_refused kept = RefusesVolume name None ending kept

-- an image file is read whole, and then its volumes
abbrev pub IndexesImage : Columns → IndexStyle → ImageReading → List ℕ → Bool → List ℕ → List Event → Result Found Ending → List Event → Type 0
IndexesImage columns style reading name is_refused kept old result new =
    (file : Result (Vec ℕ) Ending) × (between : List Event) × LooksImage reading name old file between × IndexesRead columns style reading.layout reading.is_plain name file is_refused kept between result new

-- ## The command

-- the result of a command that refused an image, or none
abbrev pub ending_of_refusal : Bool → Result (Unit {0}) Ending
ending_of_refusal true = Err Failure
ending_of_refusal false = Ok tt

-- how many of all images are done may be printed, and then the next one is indexed
abbrev pub IndexesNext : Columns → IndexStyle → ImageReading → Bool → ℕ → ℕ → List ℕ → Bool → List ℕ → List Event → Result Found Ending → List Event → Type 0
IndexesNext columns style reading is_told done all name is_refused kept =
    Then (TellsProgress is_told done all) (λ it. IndexesImage columns style (reading_named reading name) (file_named reading name) is_refused kept)

-- Images are read in order, one at a time; of each the index is taken, or it is printed why it is passed over.
abbrev pub IndexesImages : Columns → IndexStyle → ImageReading → Bool → ℕ → ℕ → List (List ℕ) → Bool → List ℕ → List Event → Result Found Ending → List Event → Type 0
IndexesImages columns style reading is_told done all [] is_refused kept = Purely (IsFound is_refused kept)
IndexesImages columns style reading is_told done all (name ∷ names) is_refused kept =
    Then (IndexesNext columns style reading is_told done all name is_refused kept) (λ found. IndexesImages columns style reading is_told (done + 1) all names found.is_refused found.lines.items)

-- the same with its progress
abbrev pub IndexesAll : Columns → IndexStyle → ImageReading → List (List ℕ) → List Event → Result Found Ending → List Event → Type 0
IndexesAll columns style reading names = WithProgress (λ is_told. IndexesImages columns style reading is_told 0 (length names) names false [])

-- Where just the lines of equal files are wanted these are printed. The command ends with a refusal where an image was refused.
abbrev pub EndsIndex : Columns → Bool → List ℕ → List Event → Result (Unit {0}) Ending → List Event → Type 0
EndsIndex columns is_refused kept = Then (After (not is_refused) (ShowsSame columns.shape.is_same columns kept)) (λ it. Purely (λ result. result ≡ ending_of_refusal is_refused))

abbrev pub IndexesWith : IndexStyle → ImageReading → List (List ℕ) → Columns → List Event → Result (Unit {0}) Ending → List Event → Type 0
IndexesWith style reading names columns = Then (IndexesAll columns style reading names) (λ found. EndsIndex columns found.is_refused found.lines.items)

-- the columns are chosen before
abbrev pub IndexesInColumns : IndexStyle → LineShape → ImageReading → List (List ℕ) → List Event → Result (Unit {0}) Ending → List Event → Type 0
IndexesInColumns style shape reading names = Then (ChoosesColumns shape names) (IndexesWith style reading names)

-- a word that is no name and no pattern is refused
abbrev pub ChecksWord : List ℕ → List Event → Result (Unit {0}) Ending → List Event → Type 0
ChecksWord word old (Ok it) new = (is_choice word ≡ true) × (new ≡ old)
ChecksWord word old (Err Misuse) new =
    (is_choice word ≡ false) × (ok : Bool) × (new ≡ tell_call ok (codes "error: --find takes a name, or a pattern of letters, digits, * and ?\n") ∷ old)
ChecksWord word old (Err _) new = ⊥

-- of several names those of files are left out that a writer which was ended may have left
abbrev pub IndexesAmong : IndexStyle → LineShape → ImageReading → List (List ℕ) → List Event → Result (Unit {0}) Ending → List Event → Type 0
IndexesAmong style shape reading names = Then (Purely (ChoosesImages names)) (λ images. IndexesInColumns style shape reading (map (λ image. image.bytes.items) images.items))

-- The word that chooses files is looked at, and then the index of all images is printed.
abbrev pub Indexes : IndexStyle → LineShape → ImageReading → List (List ℕ) → List Event → Result (Unit {0}) Ending → List Event → Type 0
Indexes style shape reading names = Then (ChecksWord style.find.bytes.items) (λ it. IndexesAmong style shape reading names)
