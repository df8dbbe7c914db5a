-- The files of an image that is opened once, and what is got of one of them.
use Rattle.std.specs.Prelude.{◌≡◌, ◌≢◌, ℕ, Option, None, Some, Result, Ok, Err, List, [], ◌∷◌, map, take}
use Rattle.std.specs.Global.{Vec}
use Rattle.std.specs.FinMap.{get}
use Rattle.bin_tape.specs.Fault.{IsFault}
use Rattle.char_pack.specs.Packing.{frames}
use Rattle.archive_files.specs.declared.forms.GetForm.{GetForm}
use Rattle.archive_files.specs.declared.forms.GetForm.TheVariants.{Tape}
use Rattle.os8_dir.specs.Entries.{DirectoryState}
use Rattle.os8_dir.specs.Found.{FilePlace, files_at, find}
use Rattle.os8_dir.specs.Reading.{directory_of}
use Rattle.os8_dir.specs.Files.{FileData, files_of, run}
use Rattle.os8_dir.specs.declared.faults.DirFault.{DirFault}
use Rattle.os8_files.specs.Calls.{info_of}
use Rattle.os8_files.specs.Failed.{extent_or}
use Rattle.os8_dir.specs.declared.file_faults.FileFault.TheVariants.{NotFound}
use Rattle.refusals.specs.declared.faults.SessionFault.{SessionFault}
use Rattle.refusals.specs.declared.faults.SessionFault.TheVariants.{File, Memory}
use Rattle.refusals.specs.declared.faults.SessionFault.TheVariants as session
use Rattle.archive_files.specs.declared.faults.ArchiveFault.{ArchiveFault}
use Rattle.archive_files.specs.Opening.{IsOpened, IsUnopened}
use Rattle.archive_files.specs.Getting.{IsGiven}
use Rattle.archive_many.specs.declared.opened.VolumeFile.{VolumeFile}

-- ## The files

-- where a file lies
abbrev pub file_at : FilePlace → VolumeFile
file_at f = record { name = f.name; place = f.place; blocks = f.size }

-- the files of a directory in order of their blocks
abbrev pub files_in : DirectoryState → List VolumeFile
files_in d = map file_at (files_at d.first d.entries)

-- the same of what a directory is read as; an unsound one has none
abbrev pub files_or : Result DirectoryState DirFault → List VolumeFile
files_or (Ok d) = files_in d
files_or (Err fault) = []

-- the files of a volume in order of their blocks
abbrev pub files_on : List (List ℕ) → List VolumeFile
files_on blocks = files_or (directory_of blocks)

abbrev pub first_of : List ℕ → Option ℕ
first_of [] = None
first_of (word ∷ words) = Some word

-- so many information words of a file, if it is found
abbrev pub words_of : ℕ → Option FilePlace → List ℕ
words_of count None = []
words_of count (Some f) = take count f.info

abbrev pub first_word_or : Result DirectoryState DirFault → ℕ → Option ℕ
first_word_or (Ok d) name = first_of (words_of d.info (find name (files_at d.first d.entries)))
first_word_or (Err fault) name = None

-- the first information word of the file of a name, where the volume has such a file and has information words
abbrev pub first_word : List (List ℕ) → ℕ → Option ℕ
first_word blocks name = first_word_or (directory_of blocks) name

-- how many information words each file of a volume has
abbrev pub information_on : List (List ℕ) → ℕ
information_on blocks = info_of blocks

-- ## What is opened

-- an image is opened as a volume of these blocks, or why not
abbrev pub OpensVolume : List ℕ → Result (List (List ℕ)) ArchiveFault → Type 0
OpensVolume image (Ok blocks) = IsOpened image blocks
OpensVolume image (Err fault) = IsUnopened image fault

-- ## What is got

-- a file lies on a volume where it is said to, and the volume holds this of it: the words are those of its blocks
pub record LiesOn (blocks : List (List ℕ)) (file : VolumeFile) (held : FileData) : Type 0 where
  pub extent : extent_or file.name (directory_of blocks) ≡ Some (file.place, file.blocks)
  pub there : get (files_of blocks) file.name ≡ Some held
  pub words : held.1 ≡ run blocks file.place file.blocks

-- what is got of a file: what is given of its words; or it doesn't lie there; or its frames are no tape
abbrev pub GetsFile : List (List ℕ) → VolumeFile → GetForm → Result (Vec ℕ) SessionFault → Type 0
GetsFile blocks file form (Ok bytes) = (held : FileData) × LiesOn blocks file held × IsGiven form held.1 bytes.items
GetsFile blocks file form (Err (File NotFound)) = extent_or file.name (directory_of blocks) ≢ Some (file.place, file.blocks)
GetsFile blocks file form (Err (session.Tape fault)) = (held : FileData) × LiesOn blocks file held × (form ≡ Tape) × IsFault (frames held.1) fault
GetsFile blocks file form (Err fault) = (fault ≡ Memory) × (held : FileData) × LiesOn blocks file held
