-- The command that puts files of the host on the volume in an image file, all or none. One file is a list of one.
use Rattle.std.specs.Prelude.{◌≡◌, ◌⊎◌, ◌||◌, ℕ, ◌+◌, Bool, true, false, not, nat_eq, codes, if◌then◌else◌, Option, None, Some, option_map, Result, Ok, Err, List, [], ◌∷◌, ◌++◌, length, map, slice_get}
use Rattle.std.specs.Global.{Vec}
use Rattle.std.specs.Str.{bytes_eq}
use Rattle.hosts.specs.Event.{Event, tell_call}
use Rattle.name_spelling.specs.Reading.{typed_name}
use Rattle.os8_dir.specs.declared.file_faults.FileFault.TheVariants.{BadName, NothingWritten}
use Rattle.program_reports.specs.Program.{program_line}
use Rattle.refusals.specs.declared.faults.SessionFault.TheVariants.{File, Memory}
use Rattle.program_reports.specs.declared.programs.ProgramLine.TheVariants as line
use Rattle.archive_files.specs.declared.faults.ArchiveFault.{ArchiveFault}
use Rattle.archive_many.specs.Emptying.{empties}
use Rattle.archive_many.specs.HostNames.{NamesVolume}
use Rattle.archive_many.specs.Opened.{OpensVolume, files_on}
use Rattle.archive_many.specs.Putting.{PutsAll, given_count, info_words, most_wanted}
use Rattle.archive_many.specs.declared.faults.ManyFault.{ManyFault}
use Rattle.archive_many.specs.declared.faults.ManyFault.TheVariants as many
use Rattle.archive_many.specs.declared.opened.VolumeFile.{VolumeFile}
use Rattle.archive_many.specs.declared.putting.ManyImage.{ManyImage}
use Rattle.archive_many.specs.declared.putting.NewFile.{NewFile}
use Rattle.program_reports.specs.declared.programs.ProgramLine.TheVariants.{SameName}
use Rattle.outcome.specs.Notes.{name_text, plain_text}
use Rattle.outcome.specs.declared.notes.NameNote.TheVariants.{NotPut, Empty, PutAsFrames}
use Rattle.outcome.specs.declared.notes.PlainNote.TheVariants.{FileNames}
use Rattle.outcome.specs.declared.endings.Ending.{Ending}
use Rattle.outcome.specs.declared.endings.Ending.TheVariants.{Line, Fault}
use Rattle.program_tasks.specs.declared.forms.PutFilesForm.{PutFilesForm}
use Rattle.program_tasks.specs.declared.forms.TextsForm.{TextsForm}
use Rattle.image_files.specs.Dates.{DatesFile, word_of_day, year_of_day}
use Rattle.image_files.specs.declared.dates.FileDay.{FileDay}
use Rattle.image_files.specs.Information.{TakesWords}
use Rattle.image_files.specs.Years.{NotesFiles, NotesYear}
use Rattle.image_files.specs.Work.{Then, Purely, Lacks, OrLacks, EndsBy, EndsTelling}
use Rattle.image_files.specs.Inputs.{ReadsIf}
use Rattle.image_files.specs.Reading.{Opens}
use Rattle.image_files.specs.Answers.{AreLines, Refuses}
use Rattle.image_files.specs.Stored.{TellsBad, is_bad, words_of}
use Rattle.image_files.specs.Saving.{IsDone, Stores}
use Rattle.image_files.specs.declared.images.Image.{Image}
use Rattle.asked_files.specs.Texts.{TakesLists, TellsFrames, is_put_noted, put_form}

-- ## The files of the host

-- one of some files has the name
abbrev pub has_name : ℕ → List NewFile → Bool
has_name name [] = false
has_name name (file ∷ files) = nat_eq file.name name || has_name name files

-- a name, or where there is none the one of zeros, which no file of a volume has
abbrev pub or_unused_name : Option ℕ → ℕ
or_unused_name None = 0
or_unused_name (Some name) = name

-- the name of a file on the volume: the one that a given text spells, or where none is given that of its path, if that spells one
abbrev pub Names : Option (List ℕ) → List ℕ → Option ℕ → Type 0
Names (Some text) path name = name ≡ Some (or_unused_name (typed_name text))
Names None path name = NamesVolume path name

-- the path is printed, and what names are
abbrev pub RefusesPath : List ℕ → List Event → Ending → List Event → Type 0
RefusesPath path old ending new = (ending ≡ Fault (File BadName)) × (ok : Bool) × (other : Bool) × (new ≡ tell_call other (plain_text FileNames) ∷ tell_call ok (name_text NotPut path) ∷ old)

-- the path is printed
abbrev pub RefusesName : List ℕ → List Event → Ending → List Event → Type 0
RefusesName path = EndsTelling (Line SameName) (name_text NotPut path)

-- why a file gets no name: its path spells none, an earlier file has it, or memory is wanted; the path is printed
abbrev pub IsNoName : Option (List ℕ) → List NewFile → List ℕ → List Event → Ending → List Event → Type 0
IsNoName given files path old ending new = (Names given path None × RefusesPath path old ending new)
    ⊎ (((name : ℕ) × Names given path (Some name) × (has_name name files ≡ true) × RefusesName path old ending new) ⊎ Lacks old ending new)

-- the name of a file, which no earlier one has
abbrev pub TakesName : Option (List ℕ) → List NewFile → List ℕ → List Event → Result ℕ Ending → List Event → Type 0
TakesName given files path old (Ok name) new = Names given path (Some name) × (has_name name files ≡ false) × (new ≡ old)
TakesName given files path old (Err ending) new = IsNoName given files path old ending new

-- the path of a file that is not read is printed, unless it gets a given name; or memory is wanted for that
abbrev pub TellsUnread : Option (List ℕ) → List ℕ → Ending → List Event → Ending → List Event → Type 0
TellsUnread (Some text) path why old ending new = (ending ≡ why) × (new ≡ old)
TellsUnread None path why old ending new = OrLacks (EndsTelling why (name_text NotPut path)) old ending new

-- `-` is standard input for a file that gets a given name
abbrev pub is_input : Option (List ℕ) → List ℕ → Bool
is_input None path = false
is_input (Some text) path = bytes_eq path (codes "-")

-- a file of the host is read whole, or standard input
abbrev pub ReadsWhole : Option (List ℕ) → List ℕ → List Event → Result (Vec ℕ) Ending → List Event → Type 0
ReadsWhole given path old (Ok bytes) new = ReadsIf (is_input given path) path old (Ok bytes) new
ReadsWhole given path old (Err ending) new = (why : Ending) × (between : List Event) × ReadsIf (is_input given path) path old (Err why) between × TellsUnread given path why between ending new

-- a file that is to be put
abbrev pub IsNewFile : TextsForm → ℕ → List ℕ → Option FileDay → NewFile → Type 0
IsNewFile texts name bytes day file = (file.name ≡ name) × (file.bytes.items ≡ bytes) × (file.form ≡ put_form texts name) × (file.date ≡ word_of_day day) × (file.year ≡ year_of_day day)

-- the same, and it is printed where it is put as frames, and others as texts; or memory is wanted
abbrev pub MakesFile : TextsForm → List ℕ → ℕ → List ℕ → Option FileDay → List Event → Result NewFile Ending → List Event → Type 0
MakesFile texts path name bytes day old (Ok file) new = IsNewFile texts name bytes day file × TellsFrames PutAsFrames (is_put_noted texts name) path old new
MakesFile texts path name bytes day old (Err ending) new = (ending ≡ Fault Memory) × ((new ≡ old) ⊎ TellsFrames PutAsFrames (is_put_noted texts name) path old new)

-- the date of a file of the host, where that is asked for; one whose time is not known is reported
abbrev pub DatesNext : Option (List ℕ) → Bool → List ℕ → List Event → Result (Option FileDay) Ending → List Event → Type 0
DatesNext given is_dated path old (Ok day) new = DatesFile is_dated path old (Ok day) new
DatesNext given is_dated path old (Err ending) new = (why : Ending) × (between : List Event) × DatesFile is_dated path old (Err why) between × TellsUnread given path why between ending new

-- the text that is given for the name of the file, if one is
abbrev pub given_name : PutFilesForm → Option (List ℕ)
given_name form = option_map (λ name. name.bytes.items) form.name

-- the file of a path, after those of earlier ones
abbrev pub ReadsNext : PutFilesForm → List NewFile → List ℕ → List Event → Result NewFile Ending → List Event → Type 0
ReadsNext form files path = Then (TakesName (given_name form) files path) (λ name. Then (ReadsWhole (given_name form) path) (λ bytes. Then (DatesNext (given_name form) form.is_dated path) (λ day. MakesFile form.texts path name bytes.items day)))

-- these are the files
abbrev pub AreFiles : List NewFile → Result (Vec NewFile) Ending → Type 0
AreFiles files (Ok it) = it.items ≡ files
AreFiles files (Err ending) = ⊥

-- the files of some paths are read in their order, and their dates, where that is asked for
abbrev pub ReadsEach : PutFilesForm → List NewFile → List (List ℕ) → List Event → Result (Vec NewFile) Ending → List Event → Type 0
ReadsEach form files [] = Purely (AreFiles files)
ReadsEach form files (path ∷ paths) = Then (ReadsNext form files path) (λ file. ReadsEach form (files ++ file ∷ []) paths)

-- ## What is refused

-- the place of the first file of no byte that would replace a file of the volume, where that of the first is given
abbrev pub loss_from : List VolumeFile → ℕ → List NewFile → Option ℕ
loss_from older place [] = None
loss_from older place (file ∷ files) = if empties older file.name file.bytes.items then Some place else loss_from older (place + 1) files

-- the files of the volume in an image, or why they are not known
abbrev pub FindsFiles : List ℕ → List Event → Result (Vec VolumeFile) Ending → List Event → Type 0
FindsFiles image old (Ok files) new = (blocks : List (List ℕ)) × OpensVolume image (Ok blocks) × (files.items ≡ files_on blocks) × (new ≡ old)
FindsFiles image old (Err ending) new = ((fault : ArchiveFault) × OpensVolume image (Err fault) × Refuses fault (length image) old ending new)
    ⊎ Lacks old ending new

-- the path of a file of no byte is printed
abbrev pub TellsEmpty : Option (List ℕ) → List Event → List Event → Type 0
TellsEmpty None old new = new ≡ old
TellsEmpty (Some path) old new = (ok : Bool) × (new ≡ tell_call ok (name_text Empty path) ∷ old)

-- a file of no byte that would replace one is reported, and none is put
abbrev pub RefusesLoss : List (List ℕ) → Option ℕ → List Event → Result (Unit {0}) Ending → List Event → Type 0
RefusesLoss paths None old result new = IsDone result × (new ≡ old)
RefusesLoss paths (Some place) old (Ok it) new = ⊥
RefusesLoss paths (Some place) old (Err ending) new = OrLacks (EndsBy (Fault (File NothingWritten)) (TellsEmpty (slice_get paths place))) old ending new

-- one of some files has no byte
abbrev pub has_empty : List NewFile → Bool
has_empty [] = false
has_empty (file ∷ files) = nat_eq (length file.bytes.items) 0 || has_empty files

-- the volume is read for files of no byte, unless there are none, or these may replace others
abbrev pub KeepsIf : Bool → List (List ℕ) → List NewFile → List ℕ → List Event → Result (Unit {0}) Ending → List Event → Type 0
KeepsIf true paths files image old result new = IsDone result × (new ≡ old)
KeepsIf false paths files image old result new = Then (FindsFiles image) (λ older. RefusesLoss paths (loss_from older.items 0 files)) old result new

abbrev pub paths_of : PutFilesForm → List (List ℕ)
paths_of form = map (λ path. path.bytes.items) form.files.items

-- those that are printed where a file is not put: a file that gets a given name is the only one
abbrev pub paths_told : Option (List ℕ) → List (List ℕ) → List (List ℕ)
paths_told (Some text) paths = []
paths_told None paths = paths

abbrev pub told_paths : PutFilesForm → List (List ℕ)
told_paths form = paths_told (given_name form) (paths_of form)

-- no file loses its words to a text of no byte, unless that is asked for
abbrev pub KeepsWords : PutFilesForm → List NewFile → List ℕ → List Event → Result (Unit {0}) Ending → List Event → Type 0
KeepsWords form files image = KeepsIf (form.may_empty || not (has_empty files)) (paths_of form) files image

-- ## The image with the files

-- the path of a file that is refused is printed
abbrev pub TellsPath : Option (List ℕ) → List Event → List Event → Type 0
TellsPath None old new = new ≡ old
TellsPath (Some path) old new = (ok : Bool) × (new ≡ tell_call ok (name_text NotPut path) ∷ old)

-- where a text is refused, it is printed where it has the first byte that may not stand in one
abbrev pub TellsText : Bool → Option NewFile → List Event → List Event → Type 0
TellsText false file old new = new ≡ old
TellsText true None old new = new ≡ old
TellsText true (Some file) old new = TellsBad file.bytes.items old new

-- why no file is put on the volume in an image of so many bytes; which file is refused is printed
abbrev pub RefusesMany : List (List ℕ) → List NewFile → ManyFault → ℕ → List Event → Ending → List Event → Type 0
RefusesMany paths files (many.Archive fault) size old ending new = Refuses fault size old ending new
RefusesMany paths files (many.File place fault) size old ending new = (ending ≡ Fault fault) × (between : List Event) × TellsPath (slice_get paths place) old between × TellsText (is_bad fault) (slice_get files place) between new

-- memory is wanted for what is printed, of which a part may be printed
abbrev pub WantsMemory : List (List ℕ) → ManyFault → List Event → Ending → List Event → Type 0
WantsMemory paths (many.Archive fault) old ending new = Lacks old ending new
WantsMemory paths (many.File place fault) old ending new = (ending ≡ Fault Memory) × ((new ≡ old) ⊎ TellsPath (slice_get paths place) old new)

-- the image with all files, or why none is put
abbrev pub MakesMany : PutFilesForm → List NewFile → List ℕ → List Event → Result ManyImage Ending → List Event → Type 0
MakesMany form files image old (Ok it) new = PutsAll image files (words_of form.info) (Ok it) × (new ≡ old)
MakesMany form files image old (Err ending) new = (fault : ManyFault) × PutsAll image files (words_of form.info) (Err fault)
    × (RefusesMany (told_paths form) files fault (length image) old ending new ⊎ WantsMemory (told_paths form) fault old ending new)

-- the lines of files that were put, which take so many blocks
abbrev pub stored_lines : List NewFile → List ℕ → List ℕ
stored_lines [] blocks = []
stored_lines (file ∷ files) [] = []
stored_lines (file ∷ files) (count ∷ counts) = program_line (line.Stored file.name count) ++ stored_lines files counts

-- it is printed how dates of the files, where these are asked for, or else a date that is given will be shown that are shown otherwise
abbrev pub NotesDates : Bool → PutFilesForm → List NewFile → List ℕ → List Event → Result (Unit {0}) Ending → List Event → Type 0
NotesDates true form files image = NotesFiles image files
NotesDates false form files image = NotesYear image (info_words (words_of form.info)) form.year

-- and no more information words are given than there is room for
abbrev pub JudgesInfo : PutFilesForm → List NewFile → List ℕ → List Event → Result (Unit {0}) Ending → List Event → Type 0
JudgesInfo form files image = Then (TakesWords (most_wanted 0 (given_count (words_of form.info)) files) image) (λ it. NotesDates form.is_dated form files image)

-- and no older file loses its words
abbrev pub JudgesPut : PutFilesForm → List NewFile → List ℕ → List Event → Result (Unit {0}) Ending → List Event → Type 0
JudgesPut form files image = Then (KeepsWords form files image) (λ it. JudgesInfo form files image)

-- the image with the files is saved once, and only then their lines are printed
abbrev pub PutsFiles : PutFilesForm → Image → List NewFile → List Event → Result (Unit {0}) Ending → List Event → Type 0
PutsFiles form image files = Then (JudgesPut form files image.bytes.items) (λ it. Then (MakesMany form files image.bytes.items) (λ made. Then (Purely (AreLines (stored_lines files made.blocks.items))) (λ lines. Stores image made.bytes.items lines.items)))

-- An image file is held and read, and then each file of the host, in their order. The image with all of them on its volume is saved once,
-- and only then their lines are printed; where one is refused, none is put.
abbrev pub Puts : PutFilesForm → List Event → Result (Unit {0}) Ending → List Event → Type 0
Puts form = Then (TakesLists form.texts) (λ it. Then (Opens form.image) (λ image. Then (ReadsEach form [] (paths_of form)) (λ files. PutsFiles form image files.items)))
