-- The result of putting many files into an image at once.
use Rattle.std.specs.Prelude.{◌≡◌, ◌⊎◌, ℕ, ◌/◌, ◌<◌, ◌≤◌, Option, None, Some, Result, Ok, Err, List, [], ◌∷◌, ◌++◌, nat_lt, if◌then◌else◌, length, map}
use Rattle.word12.specs.declared.sizes.TheConstants.{FIRST_FILE_BLOCK}
use Rattle.volume_image.specs.Image.{IsImageOf}
use Rattle.os8_dir.specs.Entries.{DirectoryState, IsNamed, end_of}
use Rattle.os8_dir.specs.Reading.{block, directory_of}
use Rattle.os8_files.specs.Mounted.{MountState}
use Rattle.os8_files.specs.Puts.{HasPutWith, blocks_filled}
use Rattle.os8_dir.specs.declared.file_faults.FileFault.TheVariants.{BadName, NoRoom, DirectoryFull, NothingWritten}
use Rattle.refusals.specs.declared.faults.SessionFault.{SessionFault}
use Rattle.refusals.specs.declared.faults.SessionFault.TheVariants.{File, BadText}
use Rattle.archive_files.specs.Opening.{IsUnopened}
use Rattle.archive_files.specs.Putting.{IsMounted, IsFit, IsUnfit, IsFull, put_words, information_for}
use Rattle.archive_many.specs.declared.putting.NewFile.{NewFile}
use Rattle.archive_many.specs.declared.putting.ManyImage.{ManyImage}
use Rattle.archive_many.specs.declared.faults.ManyFault.{ManyFault}
use Rattle.archive_many.specs.declared.faults.ManyFault.TheVariants as many

-- the words of a new file
abbrev pub words_in : NewFile → List ℕ
words_in file = put_words file.form file.bytes.items

-- how many blocks it has
abbrev pub blocks_in : NewFile → ℕ
blocks_in file = blocks_filled (words_in file)

-- the information words of a file: the word of a date of its own, or else those that are given for all
abbrev pub info_or : Option ℕ → Option (List ℕ) → Option (List ℕ)
info_or None info = info
info_or (Some date) info = Some (date ∷ [])

-- the information words that are given
abbrev pub info_words : Option (List ℕ) → List ℕ
info_words None = []
info_words (Some words) = words

-- how many information words are given
abbrev pub given_count : Option (List ℕ) → ℕ
given_count None = 0
given_count (Some words) = length words

-- how many a file is to have, where so many are given for all
abbrev pub words_wanted : ℕ → Option ℕ → ℕ
words_wanted given None = given
words_wanted given (Some date) = 1

abbrev pub larger_of : ℕ → ℕ → ℕ
larger_of one other = if nat_lt one other then other else one

-- the most that one of some files is to have, or so many
abbrev pub most_wanted : ℕ → ℕ → List NewFile → ℕ
most_wanted most given [] = most
most_wanted most given (file ∷ files) = most_wanted (larger_of most (words_wanted given file.date)) given files

-- a volume gets a new file, which has a name and bytes of a file, and the information words that are given, or those of an older file
pub record HasPutFile (old : MountState) (info : Option (List ℕ)) (file : NewFile) (new : MountState) : Type 0 where
  pub named : IsNamed file.name
  pub fit : IsFit file.form file.bytes.items
  pub put : HasPutWith old file.name (information_for old file.name (info_or file.date info)) (words_in file) new

-- a volume gets new files, one after the other
abbrev pub ArePut : MountState → Option (List ℕ) → List NewFile → MountState → Type 0
ArePut old info [] new = new ≡ old
ArePut old info (file ∷ files) new = (next : MountState) × HasPutFile old info file next × ArePut next info files new

-- block 0, and of those from 7 on each that a directory does not cover, keep their words
pub record KeepsUncovered (d : DirectoryState) (old new : List (List ℕ)) : Type 0 where
  pub count : length new ≡ length old
  pub first : block new 0 ≡ block old 0
  pub outside : (k : ℕ) → FIRST_FILE_BLOCK ≤ k → (k < d.first) ⊎ (end_of d ≤ k) → block new k ≡ block old k

-- The new image is that of the volume with all new files, and the answer says how many blocks each has. Block 0 and the blocks
-- that the directory does not cover keep their words.
pub record HasPutAll (image : List ℕ) (files : List NewFile) (info : Option (List ℕ)) (new : ManyImage) : Type 0 where
  pub before : MountState
  pub after : MountState
  pub mounted : IsMounted image before
  pub put : ArePut before info files after
  pub directory : DirectoryState
  pub read : directory_of before.blocks ≡ Ok directory
  pub uncovered : KeepsUncovered directory before.blocks after.blocks
  pub is_image : IsImageOf new.bytes.items after.blocks
  pub blocks_are : new.blocks.items ≡ map blocks_in files

-- a new file is not put, for the first of these: no name, bytes that are not those of a file, no room
abbrev pub IsRefusedFile : MountState → Option (List ℕ) → NewFile → SessionFault → Type 0
IsRefusedFile m info file (File BadName) = file.name / 0o1000000000000 ≡ 0
IsRefusedFile m info file (File NothingWritten) = IsNamed file.name × IsUnfit file.form file.bytes.items (File NothingWritten)
IsRefusedFile m info file BadText = IsNamed file.name × IsUnfit file.form file.bytes.items BadText
IsRefusedFile m info file (File (NoRoom largest)) = IsNamed file.name × IsFit file.form file.bytes.items × IsFull m file.name (info_or file.date info) (words_in file) (File (NoRoom largest))
IsRefusedFile m info file (File DirectoryFull) = IsNamed file.name × IsFit file.form file.bytes.items × IsFull m file.name (info_or file.date info) (words_in file) (File DirectoryFull)
IsRefusedFile m info file fault = ⊥

-- the first of some new files that is refused has this place, counted from 0: those before it could be put
pub record IsRefusedAt (before : MountState) (info : Option (List ℕ)) (files : List NewFile) (place : ℕ) (fault : SessionFault) : Type 0 where
  pub prefix : List NewFile
  pub file : NewFile
  pub following : List NewFile
  pub files_are : files ≡ prefix ++ file ∷ following
  pub place_is : place ≡ length prefix
  pub next : MountState
  pub put : ArePut before info prefix next
  pub refused : IsRefusedFile next info file fault

-- new files are put into an image, all of them, or why none is
abbrev pub PutsAll : List ℕ → List NewFile → Option (List ℕ) → Result ManyImage ManyFault → Type 0
PutsAll image files info (Ok new) = HasPutAll image files info new
PutsAll image files info (Err (many.Archive fault)) = IsUnopened image fault
PutsAll image files info (Err (many.File place fault)) = (before : MountState) × IsMounted image before × IsRefusedAt before info files place fault
