-- A new volume with just some files.
use Rattle.std.specs.Prelude.{◌≡◌, ℕ, suc, ◌-◌, ◌*◌, ◌<◌, ◌≤◌, Option, None, Some, Result, Ok, Err, List, [], ◌∷◌, ◌++◌, length}
use Rattle.std.specs.Global.{Vec}
use Rattle.std.specs.FinMap.{from_entries, insert}
use Rattle.word12.specs.declared.sizes.TheConstants.{BLOCK, FIRST_FILE_BLOCK, MOST_BLOCKS}
use Rattle.volume_image.specs.Image.{Creates, IsImageOf}
use Rattle.os8_dir.specs.declared.file_faults.FileFault.{FileFault}
use Rattle.os8_dir.specs.declared.file_faults.FileFault.TheVariants as file
use Rattle.os8_dir.specs.Entries.{IsNamed}
use Rattle.os8_dir.specs.Files.{Files, capacity_of, files_of}
use Rattle.os8_dir.specs.Names.{with_end_zeros}
use Rattle.os8_dir.specs.Reading.{directory_of}
use Rattle.os8_files.specs.Calls.{info_of}
use Rattle.os8_files.specs.Mounted.{MountState}
use Rattle.os8_files.specs.Puts.{HasPutWith, PutsFileWith, blocks_filled}
use Rattle.volume_salvage.specs.Rows.{Differ, files_by_place, in_a_row}
use Rattle.volume_salvage.specs.declared.faults.RescueFault.{RescueFault}
use Rattle.volume_salvage.specs.declared.faults.RescueFault.TheVariants.{Image, Unread, Refused}
use Rattle.volume_salvage.specs.declared.faults.Refusal.{Refusal}
use Rattle.volume_salvage.specs.declared.faults.Refusal.TheVariants.{NoName, NotWhole, NoRoom, DirectoryFull, Failed}
use Rattle.volume_salvage.specs.declared.fitting.FittedVolume.{FittedVolume}
use Rattle.volume_salvage.specs.declared.volumes.KeptFile.{KeptFile}

-- Files with others put among them: each has its words, and the first of its information words, so many of them.
abbrev pub with_files : ℕ → Files → List KeptFile → Files
with_files info files [] = files
with_files info files (f ∷ fs) = with_files info (insert files f.name (with_end_zeros info f.info, f.words.items)) fs

-- The image is that of a volume which has just these files. Where no two have one name, they lie in their order, each right after the one
-- before it.
pub record IsRescued (kept : List KeptFile) (image : List ℕ) : Type 0 where
  pub blocks : List (List ℕ)
  pub is_image : IsImageOf image blocks
  pub files : files_of blocks ≡ with_files (info_of blocks) (from_entries []) kept
  pub order : Differ kept → files_by_place (directory_of blocks) ≡ in_a_row (info_of blocks) FIRST_FILE_BLOCK kept

-- at least one whole block of words
pub record AreBlocks (words : List ℕ) : Type 0 where
  pub some : 0 < blocks_filled words
  pub whole : BLOCK * blocks_filled words ≡ length words

-- of some files this is the one at a place, counted from 0, and it is so
pub record IsAt (kept : List KeptFile) (place : ℕ) (Is : KeptFile → Type 0) : Type 0 where
  pub before : List KeptFile
  pub file : KeptFile
  pub after : List KeptFile
  pub split : kept ≡ before ++ file ∷ after
  pub place_is : place ≡ length before
  pub is : Is file

-- a volume refuses a file with this fault
pub record Refuses (old : MountState) (f : KeptFile) (fault : FileFault) (new : MountState) : Type 0 where
  pub puts : PutsFileWith old f.name f.info f.words.items (Err fault) new

-- a fault of the call, and not of the file
abbrev pub IsOfCall : FileFault → Type 0
IsOfCall file.NotFound = Unit {0}
IsOfCall (file.NoRoom largest) = ⊥
IsOfCall file.DirectoryFull = ⊥
IsOfCall (file.Busy name) = Unit {0}
IsOfCall file.BadName = Unit {0}
IsOfCall file.TooLong = Unit {0}
IsOfCall file.TentativeOpen = Unit {0}
IsOfCall file.Device = Unit {0}
IsOfCall file.Stopped = Unit {0}
IsOfCall file.Memory = Unit {0}
IsOfCall file.NothingWritten = Unit {0}

-- a call that puts a file into a volume failed
pub record CallFailed (old : MountState) (f : KeptFile) (new : MountState) : Type 0 where
  pub fault : FileFault
  pub of_call : IsOfCall fault
  pub refuses : Refuses old f fault new

-- A file is put into a volume, or why not.
abbrev pub Keeps : MountState → KeptFile → ℕ → Result (Unit {0}) Refusal → MountState → Type 0
Keeps old f place (Ok done) new = AreBlocks f.words.items × HasPutWith old f.name f.info f.words.items new
Keeps old f place (Err (NoName at)) new = (at ≡ place) × (IsNamed f.name → ⊥) × (new ≡ old)
Keeps old f place (Err (NotWhole at)) new = (at ≡ place) × (AreBlocks f.words.items → ⊥) × (new ≡ old)
Keeps old f place (Err (NoRoom at largest)) new = (at ≡ place) × Refuses old f (file.NoRoom largest) new
Keeps old f place (Err (DirectoryFull at)) new = (at ≡ place) × Refuses old f file.DirectoryFull new
Keeps old f place (Err (Failed at)) new = (at ≡ place) × CallFailed old f new

-- a file is the first that isn't put, for this
pub record IsRefused (refusal : Refusal) (place : ℕ) (f : KeptFile) : Type 0 where
  pub old : MountState
  pub new : MountState
  pub why : Keeps old f place (Err refusal) new

-- the file at the place that a refusal gives is refused so
pub record IsRefusedOf (kept : List KeptFile) (refusal : Refusal) : Type 0 where
  pub place : ℕ
  pub at : IsAt kept place (IsRefused refusal place)

-- the file at the place that a refusal gives is the one whose call failed
pub record HasFailedOf (kept : List KeptFile) (refusal : Refusal) : Type 0 where
  pub place : ℕ
  pub failed : refusal ≡ Failed place
  pub at : IsAt kept place (IsRefused (Failed place) place)

-- what is answered where a volume of so many blocks with these files is wanted
abbrev pub Rescues : ℕ → List KeptFile → Result (Vec ℕ) RescueFault → Type 0
Rescues count kept (Ok image) = IsRescued kept image.items
Rescues count kept (Err (Image fault)) = Creates count (Err fault)
Rescues count kept (Err Unread) = (8 ≤ count) × (count ≤ MOST_BLOCKS)
Rescues count kept (Err (Refused refusal)) = IsRefusedOf kept refusal

-- ## What fits

-- the files that are kept, by why each is not
abbrev pub files_to_keep : List KeptFile → List (Option Refusal) → List KeptFile
files_to_keep [] refusals = []
files_to_keep (f ∷ fs) [] = []
files_to_keep (f ∷ fs) (None ∷ refusals) = f ∷ files_to_keep fs refusals
files_to_keep (f ∷ fs) (Some refusal ∷ refusals) = files_to_keep fs refusals

-- a refusal is one of the file, and not that memory ran out
abbrev pub IsOfFile : Refusal → Type 0
IsOfFile (NoName at) = Unit {0}
IsOfFile (NotWhole at) = Unit {0}
IsOfFile (NoRoom at largest) = Unit {0}
IsOfFile (DirectoryFull at) = Unit {0}
IsOfFile (Failed at) = ⊥

-- a volume with these files, and so many blocks for files in all, refuses one more
pub record HasNoPlace (info capacity : ℕ) (kept : List KeptFile) (place : ℕ) (f : KeptFile) (refusal : Refusal) : Type 0 where
  pub old : MountState
  pub new : MountState
  pub files : files_of old.blocks ≡ with_files info (from_entries []) kept
  pub capacity_is : capacity_of old.blocks ≡ capacity
  pub of_file : IsOfFile refusal
  pub why : Keeps old f place (Err refusal) new

-- after files that are kept each of these is kept too, or is refused by the volume with those kept before it
abbrev pub AreJudged : ℕ → ℕ → List KeptFile → ℕ → List KeptFile → List (Option Refusal) → Type 0
AreJudged info capacity kept place [] [] = Unit {0}
AreJudged info capacity kept place [] (refusal ∷ refusals) = ⊥
AreJudged info capacity kept place (f ∷ fs) [] = ⊥
AreJudged info capacity kept place (f ∷ fs) (None ∷ refusals) = AreJudged info capacity (kept ++ f ∷ []) (suc place) fs refusals
AreJudged info capacity kept place (f ∷ fs) (Some refusal ∷ refusals) =
    HasNoPlace info capacity kept place f refusal × AreJudged info capacity kept (suc place) fs refusals

-- the image is that of a volume of so many blocks with just the files that are kept, and each other one is refused
pub record IsFitted (count : ℕ) (files : List KeptFile) (volume : FittedVolume) : Type 0 where
  pub info : ℕ
  pub rescued : IsRescued (files_to_keep files volume.refusals.items) volume.image.items
  pub judged : AreJudged info (count - FIRST_FILE_BLOCK) [] 0 files volume.refusals.items

-- what is answered where a volume of so many blocks with what fits of these files is wanted
abbrev pub FitsFiles : ℕ → List KeptFile → Result FittedVolume RescueFault → Type 0
FitsFiles count files (Ok volume) = IsFitted count files volume
FitsFiles count files (Err (Image fault)) = Creates count (Err fault)
FitsFiles count files (Err Unread) = (8 ≤ count) × (count ≤ MOST_BLOCKS)
FitsFiles count files (Err (Refused refusal)) = HasFailedOf files refusal
