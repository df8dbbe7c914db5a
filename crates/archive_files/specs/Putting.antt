-- The result of putting a file into an image.
use Rattle.std.specs.Prelude.{◌≡◌, ℕ, ◌<◌, true, false, Option, None, Some, Result, Ok, Err, List, [], length}
use Rattle.std.specs.FinMap.{get, insert}
use Rattle.volume_image.specs.Image.{IsImageOf}
use Rattle.char_pack.specs.Packing.{packed_blocks}
use Rattle.char_pack.specs.Texts.{is_storable}
use Rattle.name_spelling.specs.Reading.{typed_name}
use Rattle.os8_dir.specs.Files.{files_of}
use Rattle.os8_files.specs.Mounted.{MountState}
use Rattle.os8_files.specs.Calls.{IsLargest, IsOver, IsReady}
use Rattle.os8_files.specs.Puts.{HasPutWith, HasNoEntryWith, blocks_filled, file_with}
use Rattle.os8_files.specs.Service.{information_of}
use Rattle.os8_dir.specs.declared.file_faults.FileFault.TheVariants.{BadName, NoRoom, DirectoryFull, NothingWritten}
use Rattle.refusals.specs.declared.faults.SessionFault.{SessionFault}
use Rattle.refusals.specs.declared.faults.SessionFault.TheVariants.{File, BadText}
use Rattle.archive_files.specs.declared.faults.ArchiveFault.{ArchiveFault}
use Rattle.archive_files.specs.declared.faults.ArchiveFault.TheVariants.{Image, Directory, Refused}
use Rattle.archive_files.specs.declared.forms.PutForm.{PutForm}
use Rattle.archive_files.specs.declared.forms.PutForm.TheVariants.{Frames, Text}
use Rattle.archive_files.specs.declared.putting.NewImage.{NewImage}
use Rattle.archive_files.specs.Opening.{IsOpened, IsUnopened}
use Rattle.archive_files.specs.HostTexts.{file_text, text_words}

-- an image that is mounted: no file is held
pub record IsMounted (image : List ℕ) (m : MountState) : Type 0 where
  pub opened : IsOpened image m.blocks
  pub ready : IsReady m
  pub free : m.holds ≡ []

-- the words of bytes in a file: the fewest blocks, with zeros after the last byte
abbrev pub put_words : PutForm → List ℕ → List ℕ
put_words Frames bytes = packed_blocks bytes
put_words Text bytes = text_words (file_text bytes)

-- the bytes are those of a file: a text that can be stored, or any bytes, at least one
abbrev pub IsFit : PutForm → List ℕ → Type 0
IsFit Frames bytes = 0 < length bytes
IsFit Text bytes = is_storable bytes ≡ true

-- the bytes are not those of a file: a byte that may not stand in a text, or no byte at all
abbrev pub IsUnfit : PutForm → List ℕ → SessionFault → Type 0
IsUnfit Frames bytes (File NothingWritten) = bytes ≡ []
IsUnfit Text bytes BadText = is_storable bytes ≡ false
IsUnfit form bytes fault = ⊥

-- information words that may be known
abbrev pub words_or_none : Option (List ℕ) → List ℕ
words_or_none None = []
words_or_none (Some words) = words

-- the information words that a file gets: those given, or where none are those of the older file of the name
abbrev pub information_for : MountState → ℕ → Option (List ℕ) → List ℕ
information_for m name (Some given) = given
information_for m name None = words_or_none (information_of (get (files_of m.blocks) name))

-- the new image is that of the volume with the file of a name, and the reply reports it
pub record HasPutUnder (image : List ℕ) (name : Option ℕ) (info : Option (List ℕ)) (words : List ℕ) (new : NewImage) : Type 0 where
  pub before : MountState
  pub after : MountState
  pub mounted : IsMounted image before
  pub named : name ≡ Some new.name
  pub put : HasPutWith before new.name (information_for before new.name info) words after
  pub is_image : IsImageOf new.bytes.items after.blocks
  pub blocks_are : new.blocks ≡ blocks_filled words

-- the same under a name that was typed
abbrev pub HasPutInto : List ℕ → List ℕ → Option (List ℕ) → List ℕ → NewImage → Type 0
HasPutInto image name info words new = HasPutUnder image (typed_name name) info words new

-- the largest empty of the volume, which has so many blocks, has no room for the words, or its directory none for the entry
abbrev pub IsFull : MountState → ℕ → Option (List ℕ) → List ℕ → SessionFault → Type 0
IsFull m name info words (File (NoRoom largest)) = (largest < blocks_filled words) × IsLargest m.blocks largest
IsFull m name info words (File DirectoryFull) =
    IsOver m.blocks (insert (files_of m.blocks) name (file_with m (information_for m name info) words)) × HasNoEntryWith m.blocks name (information_for m name info) words
IsFull m name info words fault = ⊥

-- the same of the volume of an image
pub record IsFullUnder (image : List ℕ) (name : Option ℕ) (info : Option (List ℕ)) (words : List ℕ) (fault : SessionFault) : Type 0 where
  pub before : MountState
  pub mounted : IsMounted image before
  pub number : ℕ
  pub named : name ≡ Some number
  pub full : IsFull before number info words fault

-- the same under a name that was typed
abbrev pub IsFullFor : List ℕ → List ℕ → Option (List ℕ) → List ℕ → SessionFault → Type 0
IsFullFor image name info words fault = IsFullUnder image (typed_name name) info words fault

-- a file is not put into an image, for the first of these: no name, bytes that are not those of a file, no room
abbrev pub PutRefused : List ℕ → List ℕ → PutForm → List ℕ → Option (List ℕ) → SessionFault → Type 0
PutRefused image name form bytes info (File BadName) = (blocks : List (List ℕ)) × IsOpened image blocks × (typed_name name ≡ None)
PutRefused image name form bytes info (File NothingWritten) = IsUnfit form bytes (File NothingWritten) × (blocks : List (List ℕ)) × IsOpened image blocks × (number : ℕ) × (typed_name name ≡ Some number)
PutRefused image name form bytes info BadText = IsUnfit form bytes BadText × (blocks : List (List ℕ)) × IsOpened image blocks × (number : ℕ) × (typed_name name ≡ Some number)
PutRefused image name form bytes info (File (NoRoom largest)) = IsFullFor image name info (put_words form bytes) (File (NoRoom largest))
PutRefused image name form bytes info (File DirectoryFull) = IsFullFor image name info (put_words form bytes) (File DirectoryFull)
PutRefused image name form bytes info fault = IsUnopened image (Refused fault)

abbrev pub PutsFile : List ℕ → List ℕ → PutForm → List ℕ → Option (List ℕ) → Result NewImage ArchiveFault → Type 0
PutsFile image name form bytes info (Ok new) = IsFit form bytes × HasPutInto image name info (put_words form bytes) new
PutsFile image name form bytes info (Err (Image fault)) = IsUnopened image (Image fault)
PutsFile image name form bytes info (Err (Directory fault)) = IsUnopened image (Directory fault)
PutsFile image name form bytes info (Err (Refused fault)) = PutRefused image name form bytes info fault
