-- What putting words under a name does: a file is begun, its blocks are written, and it is closed or given up (this
-- project's profile).
use Rattle.std.specs.Prelude.{◌≡◌, ◌⊎◌, ℕ, ◌+◌, ◌/◌, ◌<◌, ◌≤◌, Some, None, List, [], length, Result, Ok, Err}
use Rattle.word12.specs.declared.sizes.TheConstants.{BLOCK}
use Rattle.std.specs.FinMap.{get, insert}
use Rattle.os8_dir.specs.Names.{with_end_zeros}
use Rattle.os8_dir.specs.Entries.{DirectoryState}
use Rattle.os8_dir.specs.Reading.{directory_of}
use Rattle.os8_dir.specs.Files.{FileData, files_of, limit_of, above_of, capacity_of}
use Rattle.os8_dir.specs.Changes.{fitting}
use Rattle.os8_dir.specs.declared.faults.DirFault.{DirFault}
use Rattle.os8_files.specs.Mounted.{MountState, NewFile}
use Rattle.os8_files.specs.Failed.{KeepsDirectory, FoundAgain, StandInFull, extent_or}
use Rattle.os8_files.specs.Calls.{IsReady, IsFree, IsHeld, IsLargest, IsOver, KeepsBlocks, IsWritten, rooms_of, HasFailed, HasStopped, RisesBy, StopsInPart, counted_more, differing, info_of, entries_with, list_with}
use Rattle.os8_files.specs.Laws.{KeepsOtherPlaces}
use Rattle.os8_dir.specs.declared.file_faults.FileFault.{FileFault}
use Rattle.os8_dir.specs.declared.file_faults.FileFault.TheVariants.{NoRoom, DirectoryFull, Busy, Device, Stopped, Memory}

-- how many blocks words fill
abbrev pub blocks_filled : List ℕ → ℕ
blocks_filled words = length words / BLOCK

-- what a file of these words is: the first of the words given are its information words, and missing ones are 0
abbrev pub file_with : MountState → List ℕ → List ℕ → FileData
file_with m given words = (with_end_zeros (info_of m.blocks) given, words)

-- the same with no word given
abbrev pub plain_file : MountState → List ℕ → FileData
plain_file m words = file_with m [] words

-- the file that is being written when these words are: it lies at the beginning of an empty with so many blocks
abbrev pub all_written : ℕ → ℕ → ℕ → List ℕ → NewFile
all_written name place room words = record { name = name; place = place; room = room; blocks_written = blocks_filled words }

-- how many entries the directory has with the file of these words in that empty
abbrev pub entries_put_with : ℕ → ℕ → ℕ → List ℕ → List ℕ → List (List ℕ) → ℕ
entries_put_with name place room given words blocks = entries_with (all_written name place room words) given blocks

-- what the directory is read as with it
abbrev pub list_put_with : MountState → ℕ → ℕ → ℕ → List ℕ → List ℕ → Result DirectoryState DirFault
list_put_with m name place room given words = list_with m (all_written name place room words) given

-- A file has these words, and an older one of its name is gone; the others stay in their places. It lies at the beginning of the
-- smallest empty that has enough blocks, of equals the first. Of block 0 and the blocks after the directory's, only those of the
-- file may differ, and the directory stands as it is written. Each of its blocks was written once, and each of blocks 1 to 6 that has
-- other words.
pub record HasPutWith (old : MountState) (name : ℕ) (given words : List ℕ) (new : MountState) : Type 0 where
  pub ready : IsReady old
  pub free : IsFree old name
  pub files : files_of new.blocks ≡ insert (files_of old.blocks) name (file_with old given words)
  pub place : ℕ
  pub room : ℕ
  pub fits : fitting (blocks_filled words) (rooms_of old.blocks) ≡ Some (place, room)
  pub few : entries_put_with name place room given words old.blocks ≤ limit_of old.blocks
  pub list : directory_of new.blocks ≡ list_put_with old name place room given words
  pub extent : extent_or name (directory_of new.blocks) ≡ Some (place, blocks_filled words)
  pub places : KeepsOtherPlaces name old new
  pub blocks : KeepsBlocks old.blocks new.blocks place (blocks_filled words)
  pub written : IsWritten old.blocks new.blocks
  pub capacity : capacity_of new.blocks ≡ capacity_of old.blocks
  pub limit : limit_of new.blocks ≡ limit_of old.blocks
  pub info : info_of new.blocks ≡ info_of old.blocks
  pub tight : get (files_of old.blocks) name ≡ None → above_of old.blocks ≡ 0 → above_of new.blocks ≡ 0
  pub writes : new.writes ≡ counted_more (differing 6 old.blocks new.blocks) (counted_more (blocks_filled words) old.writes)
  pub others : new ≡ record old { blocks = new.blocks; writes = new.writes }

-- the same with no information word given: they are 0
abbrev pub HasPut : MountState → ℕ → List ℕ → MountState → Type 0
HasPut old name words new = HasPutWith old name [] words new

-- So many blocks were written from the beginning of the smallest empty that has them, of equals the first. They belong to no file,
-- no other block differs, and no file is changed.
pub record HasKept (old : MountState) (size : ℕ) (new : MountState) : Type 0 where
  pub place : ℕ
  pub room : ℕ
  pub fits : fitting size (rooms_of old.blocks) ≡ Some (place, room)
  pub blocks : KeepsBlocks old.blocks new.blocks place size
  pub kept : KeepsDirectory old.blocks new.blocks
  pub files : files_of new.blocks ≡ files_of old.blocks
  pub capacity : capacity_of new.blocks ≡ capacity_of old.blocks
  pub limit : limit_of new.blocks ≡ limit_of old.blocks
  pub info : info_of new.blocks ≡ info_of old.blocks
  pub above : above_of new.blocks ≡ above_of old.blocks
  pub writes : new.writes ≡ counted_more size old.writes
  pub others : new ≡ record old { blocks = new.blocks; writes = new.writes }

-- The directory would have too many entries with a file of these words in the smallest empty that has its blocks.
pub record HasNoEntryWith (blocks : List (List ℕ)) (name : ℕ) (given words : List ℕ) : Type 0 where
  pub place : ℕ
  pub room : ℕ
  pub fits : fitting (blocks_filled words) (rooms_of blocks) ≡ Some (place, room)
  pub over : limit_of blocks < entries_put_with name place room given words blocks

abbrev pub HasNoEntry : List (List ℕ) → ℕ → List ℕ → Type 0
HasNoEntry blocks name words = HasNoEntryWith blocks name [] words

-- a write failed of one of so many blocks, and mounting finds all files with their words
pub record FileFailed (old : MountState) (size : ℕ) (new : MountState) : Type 0 where
  pub files : FoundAgain old.blocks new.blocks
  pub writes : RisesBy size old.writes new.writes

-- A write of the directory failed, when the words of a file were written in an empty. Each older file, a replaced one too, stands
-- in full in its blocks, and so does the new one.
pub record EntryFailed (old : MountState) (name place room : ℕ) (given words : List ℕ) (new : MountState) : Type 0 where
  pub few : entries_put_with name place room given words old.blocks ≤ limit_of old.blocks
  pub older : StandInFull new.blocks (directory_of old.blocks) (files_of old.blocks)
  pub newer : StandInFull new.blocks (list_put_with old name place room given words) (insert (files_of old.blocks) name (file_with old given words))
  pub directory : DirectoryState
  pub list : list_put_with old name place room given words ≡ Ok directory
  pub written : StopsInPart old.blocks new.blocks directory (counted_more (blocks_filled words) old.writes) new.writes

-- A write failed, of the blocks of the file or, after these, of the directory. Of block 0 and the blocks after the directory's,
-- only those of the file may differ.
pub record PutFailedWith (old : MountState) (name : ℕ) (given words : List ℕ) (new : MountState) : Type 0 where
  pub ready : IsReady old
  pub free : IsFree old name
  pub place : ℕ
  pub room : ℕ
  pub fits : fitting (blocks_filled words) (rooms_of old.blocks) ≡ Some (place, room)
  pub blocks : KeepsBlocks old.blocks new.blocks place (blocks_filled words)
  pub failed : FileFailed old (blocks_filled words) new ⊎ EntryFailed old name place room given words new
  pub writes : RisesBy (blocks_filled words + 6) old.writes new.writes
  pub others : HasFailed old new

abbrev pub PutsFileWith : MountState → ℕ → List ℕ → List ℕ → Result (Unit {0}) FileFault → MountState → Type 0
PutsFileWith old name given words (Ok nothing) new = HasPutWith old name given words new
PutsFileWith old name given words (Err (Busy other)) new = IsReady old × (other ≡ name) × IsHeld old name × (new ≡ old)
PutsFileWith old name given words (Err (NoRoom largest)) new =
    IsReady old × IsFree old name × (largest < blocks_filled words) × IsLargest old.blocks largest × (new ≡ old)
    × (fitting (blocks_filled words) (rooms_of old.blocks) ≡ None)
PutsFileWith old name given words (Err DirectoryFull) new =
    IsReady old × IsFree old name × IsOver old.blocks (insert (files_of old.blocks) name (file_with old given words))
    × HasKept old (blocks_filled words) new × HasNoEntryWith old.blocks name given words
PutsFileWith old name given words (Err Device) new = PutFailedWith old name given words new
PutsFileWith old name given words (Err Stopped) new = HasStopped old new
PutsFileWith old name given words (Err Memory) new = IsReady old × IsFree old name × HasKept old (blocks_filled words) new
PutsFileWith old name given words (Err fault) new = ⊥

-- the same with no information word given
abbrev pub PutFailed : MountState → ℕ → List ℕ → MountState → Type 0
PutFailed old name words new = PutFailedWith old name [] words new

abbrev pub PutsFile : MountState → ℕ → List ℕ → Result (Unit {0}) FileFault → MountState → Type 0
PutsFile old name words (Ok nothing) new = HasPut old name words new
PutsFile old name words (Err DirectoryFull) new =
    IsReady old × IsFree old name × IsOver old.blocks (insert (files_of old.blocks) name (plain_file old words))
    × HasKept old (blocks_filled words) new × HasNoEntry old.blocks name words
PutsFile old name words (Err Device) new = PutFailed old name words new
PutsFile old name words (Err fault) new = PutsFileWith old name [] words (Err fault) new

-- What a refusal of words under a name says of the blocks, beside the files. NO ROOM gives their largest empty, and DIRECTORY FULL
-- says that their list of entries would be too long with the file.
abbrev pub TellsRoom : List (List ℕ) → ℕ → List ℕ → FileFault → Type 0
TellsRoom blocks name words (NoRoom most) = IsLargest blocks most
TellsRoom blocks name words DirectoryFull = HasNoEntry blocks name words
TellsRoom blocks name words fault = Unit {0}
