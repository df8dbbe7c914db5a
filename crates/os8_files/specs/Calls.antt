-- What each call of the file service does: one relation by cases on its answer (this project's profile).
use lib.Pointwise.{pointwise}
use Rattle.std.specs.Prelude.{nat_eq, if◌then◌else◌, ◌≡◌, ◌≢◌, ◌⊎◌, ◌-◌, ℕ, zero, suc, ◌+◌, ◌*◌, ◌/◌, ◌<◌, ◌≤◌, true, false, Some, None, List, [], ◌++◌, length, take, drop, slice_set, Result, Ok, Err}
use Rattle.word12.specs.declared.sizes.TheConstants.{BLOCK, FIRST_FILE_BLOCK, MOST_BLOCKS}
use Rattle.std.specs.Global.{Vec}
use Rattle.std.specs.FinMap.{get, insert, remove}
use Rattle.volume_image.specs.Volume.{next_count}
use Rattle.os8_dir.specs.Names.{with_end_zeros}
use Rattle.os8_dir.specs.Entries.{DirectoryState, contains, IsNamed}
use Rattle.os8_dir.specs.Reading.{directory_of, block}
use Rattle.os8_dir.specs.Found.{rooms_at, largest, size_or_zero}
use Rattle.os8_dir.specs.Files.{FileData, Files, files_of, run, of_directory, limit_of, above_of, capacity_of}
use Rattle.os8_dir.specs.Changes.{without_file, with_new_file, new_file, moved_down, fitting}
use Rattle.os8_dir.specs.declared.faults.DirFault.{DirFault}
use Rattle.os8_files.specs.Mounted.{MountState, NewFile}
use Rattle.os8_files.specs.Service.{blocks_in, blocks_of, lengths_of, blocks_in_use, count_of}
use Rattle.os8_dir.specs.Segments.{HoldsSegments, segment_count}
use Rattle.os8_files.specs.Failed.{extent_or, directory_or, with_list, lowest_or, KeepsDirectory, FoundAgain, FoundAgainBut, StandInFull, IsWrittenInPart}
use Rattle.os8_files.specs.Holds.{with_hold}
use Rattle.os8_files.specs.declared.tokens.Squeezed.{Squeezed}
use Rattle.os8_files.specs.declared.tokens.Squeezed.TheVariants.{Moved, Nothing}
use Rattle.os8_dir.specs.declared.file_faults.FileFault.{FileFault}
use Rattle.os8_dir.specs.declared.file_faults.FileFault.TheVariants.{NotFound, NoRoom, DirectoryFull, Busy, BadName, TooLong, TentativeOpen, Device, Stopped, Memory, NothingWritten}

-- there is a file of the name
abbrev pub IsThere : MountState → ℕ → Type 0
IsThere m name = (file : FileData) × (get (files_of m.blocks) name ≡ Some file)

-- no file is held under the name
abbrev pub IsFree : MountState → ℕ → Type 0
IsFree m name = contains m.holds name ≡ false

-- one is
abbrev pub IsHeld : MountState → ℕ → Type 0
IsHeld m name = contains m.holds name ≡ true

-- a count after so many more
abbrev pub counted_more : ℕ → ℕ → ℕ
counted_more zero count = count
counted_more (suc k) count = next_count (counted_more k count)

-- how many of blocks 1 to n have other words
abbrev pub differing : ℕ → List (List ℕ) → List (List ℕ) → ℕ
differing zero old new = 0
differing (suc n) old new = if pointwise nat_eq (block old (suc n)) (block new (suc n)) then differing n old new else suc (differing n old new)

-- the directory was written with one write for each of blocks 1 to 6 that has other words
abbrev pub WritesFew : MountState → MountState → Type 0
WritesFew old new = new.writes ≡ counted_more (differing 6 old.blocks new.blocks) old.writes

-- a count has risen by some more, but at most by so many
pub record RisesBy (most before after : ℕ) : Type 0 where
  pub number : ℕ
  pub some : 0 < number
  pub few : number ≤ most
  pub rise : after ≡ counted_more number before

-- A directory was written in part. The count of writes has risen by one for each block with other words below the block
-- whose write failed, and by one for that block.
pub record StopsInPart (old new : List (List ℕ)) (directory : DirectoryState) (before after : ℕ) : Type 0 where
  pub part : IsWrittenInPart old new directory
  pub writes : after ≡ next_count (counted_more (differing part.number old new) before)

-- A write failed. Of the blocks and of the number of writes nothing is said here. The directory stays the one that was held,
-- and all else but the stop and the count is as before.
abbrev pub HasFailed : MountState → MountState → Type 0
HasFailed old new = new ≡ record old { blocks = new.blocks; writes = new.writes; failed_writes = old.failed_writes + 1; stopped = true; last = directory_or (directory_of old.blocks) }

-- a write has failed before, and nothing is changed
abbrev pub HasStopped : MountState → MountState → Type 0
HasStopped old new = (old.stopped ≡ true) × (new ≡ old)

-- the file of a name, where there is one, has more than so many blocks
abbrev pub HasBlock : MountState → ℕ → ℕ → Type 0
HasBlock m name k = (size : ℕ) → blocks_of (get (files_of m.blocks) name) ≡ Some size → k < size

-- the same, until a write fails
abbrev pub IsLonger : MountState → ℕ → ℕ → Type 0
IsLonger m name k = m.stopped ≡ false → HasBlock m name k

-- block k of a file, which has whole blocks, is read by one read
pub record HasRead (old : MountState) (name k : ℕ) (words : List ℕ) (new : MountState) : Type 0 where
  pub running : old.stopped ≡ false
  pub file : FileData
  pub there : get (files_of old.blocks) name ≡ Some file
  pub whole : BLOCK * blocks_in file ≡ length file.1
  pub inside : k < blocks_in file
  pub most : blocks_in file ≤ MOST_BLOCKS
  pub block : words ≡ take BLOCK (drop (BLOCK * k) file.1)
  pub others : new ≡ record old { reads = next_count old.reads }

abbrev pub ReadsBlock : MountState → ℕ → ℕ → List ℕ → Result (Unit {0}) FileFault → MountState → List ℕ → Type 0
ReadsBlock old name k before (Ok nothing) new after = HasRead old name k after new
ReadsBlock old name k before (Err NotFound) new after = (old.stopped ≡ false) × (get (files_of old.blocks) name ≡ None) × (new ≡ old) × (after ≡ before)
ReadsBlock old name k before (Err Device) new after = (old.stopped ≡ false) × (new ≡ record old { reads = next_count old.reads; failed_reads = old.failed_reads + 1 }) × (after ≡ before)
ReadsBlock old name k before (Err Stopped) new after = (old.stopped ≡ true) × (new ≡ old) × (after ≡ before)
ReadsBlock old name k before (Err fault) new after = ⊥

-- the names of the files with the blocks of each, in name order
abbrev pub ListsFiles : MountState → Result (Vec (ℕ × ℕ)) FileFault → Type 0
ListsFiles m (Ok list) = (m.stopped ≡ false) × (list.items ≡ lengths_of (files_of m.blocks))
ListsFiles m (Err Stopped) = m.stopped ≡ true
ListsFiles m (Err Memory) = m.stopped ≡ false
ListsFiles m (Err fault) = ⊥

-- one hold more of a file that is there, which has whole blocks, at least one
pub record HasTaken (old : MountState) (name hold : ℕ) (new : MountState) : Type 0 where
  pub running : old.stopped ≡ false
  pub file : FileData
  pub there : get (files_of old.blocks) name ≡ Some file
  pub whole : BLOCK * blocks_in file ≡ length file.1
  pub some : 0 < blocks_in file
  pub most : blocks_in file ≤ MOST_BLOCKS
  pub names : hold ≡ name
  pub others : new ≡ record old { holds = with_hold name old.holds }

abbrev pub HoldsFile : MountState → ℕ → Result ℕ FileFault → MountState → Type 0
HoldsFile old name (Ok hold) new = HasTaken old name hold new
HoldsFile old name (Err NotFound) new = (old.stopped ≡ false) × (get (files_of old.blocks) name ≡ None) × (new ≡ old)
HoldsFile old name (Err Stopped) new = HasStopped old new
HoldsFile old name (Err Memory) new = (old.stopped ≡ false) × IsThere old name × (new ≡ old)
HoldsFile old name (Err fault) new = ⊥

-- a call may change files: no write has failed, and no file is being written
pub record IsReady (m : MountState) : Type 0 where
  pub running : m.stopped ≡ false
  pub none : m.tentative ≡ None

-- the empties of a volume with their places
abbrev pub rooms_or : Result DirectoryState DirFault → List (ℕ × ℕ)
rooms_or (Ok d) = rooms_at d.first d.entries
rooms_or (Err fault) = []

abbrev pub rooms_of : List (List ℕ) → List (ℕ × ℕ)
rooms_of blocks = rooms_or (directory_of blocks)

-- The largest empty has exactly so many blocks. The free blocks are no fewer, no more than so many for each file and once more, and
-- exactly so many where no file has a free block below it.
pub record IsLargest (blocks : List (List ℕ)) (most_room : ℕ) : Type 0 where
  pub exact : most_room ≡ size_or_zero (largest (rooms_of blocks))
  pub least : most_room + blocks_in_use (files_of blocks) ≤ capacity_of blocks
  pub most : capacity_of blocks ≤ blocks_in_use (files_of blocks) + most_room * (count_of (files_of blocks) + 1)
  pub tight : above_of blocks ≡ 0 → most_room + blocks_in_use (files_of blocks) ≡ capacity_of blocks

-- The directory may have fewer entries than a change makes. Then it may have fewer than the files after the change, with an empty
-- below each and one above all. Where no file has a free block below it, it may have fewer than the files before and two more.
pub record IsOver (blocks : List (List ℕ)) (after : Files) : Type 0 where
  pub files : limit_of blocks < 2 * count_of after + 1
  pub tight : above_of blocks ≡ 0 → limit_of blocks < count_of (files_of blocks) + 2

-- of block 0 and of the blocks after the directory's, only so many from a place on may differ
pub record KeepsBlocks (old new : List (List ℕ)) (place size : ℕ) : Type 0 where
  pub count : length new ≡ length old
  pub first : block new 0 ≡ block old 0
  pub following : (k : ℕ) → FIRST_FILE_BLOCK ≤ k → (k < place) ⊎ (place + size ≤ k) → block new k ≡ block old k

-- The directory stands as it is written: pieces of as many entries as a segment takes, in blocks 1, 2 and so on. Each has a link
-- to the block after it, a flag word of 0, and zeros after its entries. Blocks up to 6 that it does not need are as before.
pub record IsWritten (old new : List (List ℕ)) : Type 0 where
  pub directory : DirectoryState
  pub read : directory_of new ≡ Ok directory
  pub segments : HoldsSegments new directory
  pub unused : (k : ℕ) → segment_count directory < k → k ≤ 6 → block new k ≡ block old k

-- how many information words a file of the volume has
abbrev pub info_of : List (List ℕ) → ℕ
info_of blocks = of_directory (λ d. d.info) (directory_of blocks)

-- how many entries the directory has without the file of a name
abbrev pub entries_without : ℕ → List (List ℕ) → ℕ
entries_without name blocks = of_directory (λ d. length (without_file name d.entries)) (directory_of blocks)

-- a file is taken out, and the others stay in their places
pub record HasDeleted (old : MountState) (name : ℕ) (new : MountState) : Type 0 where
  pub ready : IsReady old
  pub file : FileData
  pub there : get (files_of old.blocks) name ≡ Some file
  pub free : IsFree old name
  pub fits : entries_without name old.blocks ≤ limit_of old.blocks
  pub list : directory_of new.blocks ≡ with_list (λ d. without_file name d.entries) (directory_of old.blocks)
  pub places : (other : ℕ) → name ≢ other → extent_or other (directory_of new.blocks) ≡ extent_or other (directory_of old.blocks)
  pub files : files_of new.blocks ≡ remove (files_of old.blocks) name
  pub capacity : capacity_of new.blocks ≡ capacity_of old.blocks
  pub limit : limit_of new.blocks ≡ limit_of old.blocks
  pub info : info_of new.blocks ≡ info_of old.blocks
  pub written : IsWritten old.blocks new.blocks
  pub blocks : KeepsBlocks old.blocks new.blocks 0 0
  pub writes : WritesFew old new
  pub others : new ≡ record old { blocks = new.blocks; writes = new.writes }

-- A write failed where a file is taken out. Each file, the deleted one too, stands in full in its blocks.
pub record DeleteFailed (old : MountState) (name : ℕ) (new : MountState) : Type 0 where
  pub ready : IsReady old
  pub there : IsThere old name
  pub free : IsFree old name
  pub files : StandInFull new.blocks (directory_of old.blocks) (files_of old.blocks)
  pub written : (directory : DirectoryState) × (with_list (λ d. without_file name d.entries) (directory_of old.blocks) ≡ Ok directory) × StopsInPart old.blocks new.blocks directory old.writes new.writes
  pub blocks : KeepsBlocks old.blocks new.blocks 0 0
  pub others : HasFailed old new

abbrev pub DeletesFile : MountState → ℕ → Result (Unit {0}) FileFault → MountState → Type 0
DeletesFile old name (Ok nothing) new = HasDeleted old name new
DeletesFile old name (Err TentativeOpen) new = (old.stopped ≡ false) × (begun : NewFile) × (old.tentative ≡ Some begun) × (new ≡ old)
DeletesFile old name (Err NotFound) new = IsReady old × (get (files_of old.blocks) name ≡ None) × (new ≡ old)
DeletesFile old name (Err (Busy other)) new = IsReady old × IsThere old name × (other ≡ name) × IsHeld old name × (new ≡ old)
DeletesFile old name (Err DirectoryFull) new = IsReady old × IsThere old name × IsFree old name × (limit_of old.blocks < entries_without name old.blocks) × IsOver old.blocks (remove (files_of old.blocks) name) × (new ≡ old)
DeletesFile old name (Err Device) new = DeleteFailed old name new
DeletesFile old name (Err Stopped) new = HasStopped old new
DeletesFile old name (Err Memory) new = IsReady old × IsThere old name × IsFree old name × (new ≡ old)
DeletesFile old name (Err fault) new = ⊥

-- a file is begun in the empty for a wish
pub record HasEntered (old : MountState) (name wish tentative : ℕ) (new : MountState) : Type 0 where
  pub ready : IsReady old
  pub named : IsNamed name
  pub free : IsFree old name
  pub token : tentative ≡ name
  pub place : ℕ
  pub room : ℕ
  pub fits : fitting wish (rooms_of old.blocks) ≡ Some (place, room)
  pub others : new ≡ record old { tentative = Some (record { name = name; place = place; room = room; blocks_written = 0 }) }

abbrev pub Enters : MountState → ℕ → ℕ → Result ℕ FileFault → MountState → Type 0
Enters old name wish (Ok tentative) new = HasEntered old name wish tentative new
Enters old name wish (Err BadName) new = (old.stopped ≡ false) × (name / 68719476736 ≡ 0) × (new ≡ old)
Enters old name wish (Err TentativeOpen) new = (old.stopped ≡ false) × IsNamed name × (begun : NewFile) × (old.tentative ≡ Some begun) × (new ≡ old)
Enters old name wish (Err (Busy other)) new = IsReady old × IsNamed name × (other ≡ name) × IsHeld old name × (new ≡ old)
Enters old name wish (Err (NoRoom largest_room)) new = IsReady old × IsNamed name × IsFree old name × (fitting wish (rooms_of old.blocks) ≡ None) × (largest_room ≡ size_or_zero (largest (rooms_of old.blocks))) × (0 < wish → largest_room < wish) × IsLargest old.blocks largest_room × (new ≡ old)
Enters old name wish (Err Stopped) new = HasStopped old new
Enters old name wish (Err fault) new = ⊥

-- the file that is being written has the name
abbrev pub IsOf : MountState → ℕ → Type 0
IsOf m name = (begun : NewFile) × (m.tentative ≡ Some begun) × (begun.name ≡ name)

-- the next block of the file that is being written; no file's words are changed
pub record HasWritten (old : MountState) (words : List ℕ) (new : MountState) : Type 0 where
  pub running : old.stopped ≡ false
  pub begun : NewFile
  pub was : old.tentative ≡ Some begun
  pub short : begun.blocks_written < begun.room
  pub blocks : new.blocks ≡ slice_set old.blocks (begun.place + begun.blocks_written) words
  pub text : run new.blocks begun.place (begun.blocks_written + 1) ≡ run old.blocks begun.place begun.blocks_written ++ words
  pub kept : KeepsDirectory old.blocks new.blocks
  pub others_kept : KeepsBlocks old.blocks new.blocks (begun.place + begun.blocks_written) 1
  pub files : files_of new.blocks ≡ files_of old.blocks
  pub capacity : capacity_of new.blocks ≡ capacity_of old.blocks
  pub limit : limit_of new.blocks ≡ limit_of old.blocks
  pub info : info_of new.blocks ≡ info_of old.blocks
  pub above : above_of new.blocks ≡ above_of old.blocks
  pub others : new ≡ record old { blocks = new.blocks; writes = next_count old.writes; tentative = Some (record { name = begun.name; place = begun.place; room = begun.room; blocks_written = begun.blocks_written + 1 }) }

-- A write failed of the next block of the file that is being written. Mounting finds all files with their words.
pub record WriteFailed (old new : MountState) : Type 0 where
  pub running : old.stopped ≡ false
  pub begun : NewFile
  pub was : old.tentative ≡ Some begun
  pub short : begun.blocks_written < begun.room
  pub files : FoundAgain old.blocks new.blocks
  pub blocks : KeepsBlocks old.blocks new.blocks (begun.place + begun.blocks_written) 1
  pub writes : new.writes ≡ next_count old.writes
  pub others : HasFailed old new

abbrev pub WritesBlock : MountState → List ℕ → Result (Unit {0}) FileFault → MountState → Type 0
WritesBlock old words (Ok nothing) new = HasWritten old words new
WritesBlock old words (Err TooLong) new = (old.stopped ≡ false) × (begun : NewFile) × (old.tentative ≡ Some begun) × (begun.room ≤ begun.blocks_written) × (new ≡ old)
WritesBlock old words (Err Device) new = WriteFailed old new
WritesBlock old words (Err Stopped) new = HasStopped old new
WritesBlock old words (Err fault) new = ⊥

-- how many entries the directory has with a file that was written
abbrev pub entries_with : NewFile → List ℕ → List (List ℕ) → ℕ
entries_with begun info blocks = of_directory (λ d. length (with_new_file d.first (new_file d begun.name info begun.place begun.blocks_written) d.entries)) (directory_of blocks)

-- what a file that was written is: the first of these words are its information words, and missing ones are 0
abbrev pub new_held : MountState → NewFile → List ℕ → FileData
new_held m begun info = (with_end_zeros (info_of m.blocks) info, run m.blocks begun.place begun.blocks_written)

-- the file that is being written is gone, and all else is as before
abbrev pub WithoutNewFile : MountState → MountState
WithoutNewFile m = record m { tentative = None }

-- A file has the blocks that were written, and these information words; an older one of its name is gone, and the others stay
-- in their places.
pub record HasClosed (old : MountState) (name : ℕ) (given : List ℕ) (new : MountState) : Type 0 where
  pub running : old.stopped ≡ false
  pub begun : NewFile
  pub was : old.tentative ≡ Some begun
  pub names : begun.name ≡ name
  pub some : 0 < begun.blocks_written
  pub free : IsFree old name
  pub fits : entries_with begun given old.blocks ≤ limit_of old.blocks
  pub list : directory_of new.blocks ≡ with_list (λ d. with_new_file d.first (new_file d name given begun.place begun.blocks_written) d.entries) (directory_of old.blocks)
  pub place : extent_or name (directory_of new.blocks) ≡ Some (begun.place, begun.blocks_written)
  pub places : (other : ℕ) → name ≢ other → extent_or other (directory_of new.blocks) ≡ extent_or other (directory_of old.blocks)
  pub files : files_of new.blocks ≡ insert (files_of old.blocks) name (new_held old begun given)
  pub capacity : capacity_of new.blocks ≡ capacity_of old.blocks
  pub limit : limit_of new.blocks ≡ limit_of old.blocks
  pub info : info_of new.blocks ≡ info_of old.blocks
  pub tight : get (files_of old.blocks) name ≡ None → above_of old.blocks ≡ 0 → above_of new.blocks ≡ 0
  pub written : IsWritten old.blocks new.blocks
  pub blocks : KeepsBlocks old.blocks new.blocks 0 0
  pub writes : WritesFew old new
  pub others : new ≡ record (WithoutNewFile old) { blocks = new.blocks; writes = new.writes }

-- no write has failed, and this file is being written
pub record IsWriting (m : MountState) (begun : NewFile) : Type 0 where
  pub running : m.stopped ≡ false
  pub was : m.tentative ≡ Some begun

-- what the files of a volume would be with one that was written
abbrev pub files_with : MountState → NewFile → List ℕ → Files
files_with m begun info = insert (files_of m.blocks) begun.name (new_held m begun info)

-- where they would lie
abbrev pub list_with : MountState → NewFile → List ℕ → Result DirectoryState DirFault
list_with m begun info = with_list (λ d. with_new_file d.first (new_file d begun.name info begun.place begun.blocks_written) d.entries) (directory_of m.blocks)

-- A write failed where a file that was written is placed in the directory. Each older file, a replaced one too, stands in
-- full in its blocks, and so does the new one in those that were written.
pub record PlaceFailed (old : MountState) (begun : NewFile) (given : List ℕ) (new : MountState) : Type 0 where
  pub some : 0 < begun.blocks_written
  pub free : IsFree old begun.name
  pub fits : entries_with begun given old.blocks ≤ limit_of old.blocks
  pub older : StandInFull new.blocks (directory_of old.blocks) (files_of old.blocks)
  pub newer : StandInFull new.blocks (list_with old begun given) (files_with old begun given)
  pub written : (directory : DirectoryState) × (list_with old begun given ≡ Ok directory) × StopsInPart old.blocks new.blocks directory old.writes new.writes
  pub blocks : KeepsBlocks old.blocks new.blocks 0 0
  pub others : HasFailed old new

abbrev pub ClosesFile : MountState → ℕ → List ℕ → Result (Unit {0}) FileFault → MountState → Type 0
ClosesFile old name info (Ok nothing) new = HasClosed old name info new
ClosesFile old name info (Err NothingWritten) new = (begun : NewFile) × IsWriting old begun × (begun.blocks_written ≡ 0) × (new ≡ WithoutNewFile old)
ClosesFile old name info (Err (Busy other)) new = (begun : NewFile) × IsWriting old begun × (0 < begun.blocks_written) × (other ≡ name) × IsHeld old name × (new ≡ WithoutNewFile old)
ClosesFile old name info (Err DirectoryFull) new = (begun : NewFile) × IsWriting old begun × (0 < begun.blocks_written) × IsFree old name × (limit_of old.blocks < entries_with begun info old.blocks) × IsOver old.blocks (insert (files_of old.blocks) name (new_held old begun info)) × (new ≡ WithoutNewFile old)
ClosesFile old name info (Err Device) new = (begun : NewFile) × IsWriting old begun × (begun.name ≡ name) × PlaceFailed (WithoutNewFile old) begun info new
ClosesFile old name info (Err Stopped) new = (old.stopped ≡ true) × (new ≡ WithoutNewFile old)
ClosesFile old name info (Err Memory) new = (begun : NewFile) × IsWriting old begun × (0 < begun.blocks_written) × IsFree old name × (new ≡ WithoutNewFile old)
ClosesFile old name info (Err fault) new = ⊥

-- the lowest file with an empty directly below it lies lower by that empty, with one read for each of its blocks; the files
-- are the same
pub record HasMoved (old : MountState) (name : ℕ) (new : MountState) : Type 0 where
  pub ready : IsReady old
  pub gap : ℕ
  pub lowest : lowest_or (directory_of old.blocks) ≡ Some (name, gap)
  pub place : ℕ
  pub size : ℕ
  pub list : directory_of new.blocks ≡ with_list (λ d. moved_down name d.entries) (directory_of old.blocks)
  pub was : extent_or name (directory_of old.blocks) ≡ Some (place, size)
  pub moved : extent_or name (directory_of new.blocks) ≡ Some (place - gap, size)
  pub places : (other : ℕ) → name ≢ other → extent_or other (directory_of new.blocks) ≡ extent_or other (directory_of old.blocks)
  pub files : files_of new.blocks ≡ files_of old.blocks
  pub above : above_of new.blocks + 1 ≡ above_of old.blocks
  pub capacity : capacity_of new.blocks ≡ capacity_of old.blocks
  pub limit : limit_of new.blocks ≡ limit_of old.blocks
  pub info : info_of new.blocks ≡ info_of old.blocks
  pub written : IsWritten old.blocks new.blocks
  pub blocks : KeepsBlocks old.blocks new.blocks (place - gap) size
  pub reads : new.reads ≡ counted_more size old.reads
  pub writes : new.writes ≡ counted_more (differing 6 old.blocks new.blocks) (counted_more size old.writes)
  pub others : new ≡ record old { blocks = new.blocks; reads = new.reads; writes = new.writes }

-- how many entries the directory has with a file moved down
abbrev pub entries_moved : ℕ → List (List ℕ) → ℕ
entries_moved name blocks = of_directory (λ d. length (moved_down name d.entries)) (directory_of blocks)

-- a read failed, and nothing is changed
abbrev pub HasMissed : MountState → MountState → Type 0
HasMissed old new = new ≡ record old { reads = new.reads; failed_reads = old.failed_reads + 1 }

-- A write failed where the lowest file with an empty directly below it is moved down. Either mounting finds all files with
-- their words, but perhaps this one where it is longer than that empty. Or each file stands in full where the new list has it.
pub record MoveFailed (old new : MountState) : Type 0 where
  pub ready : IsReady old
  pub name : ℕ
  pub gap : ℕ
  pub lowest : lowest_or (directory_of old.blocks) ≡ Some (name, gap)
  pub place : ℕ
  pub size : ℕ
  pub was : extent_or name (directory_of old.blocks) ≡ Some (place, size)
  pub files : (FoundAgainBut old.blocks new.blocks name size gap × RisesBy size old.writes new.writes) ⊎ (StandInFull new.blocks (with_list (λ d. moved_down name d.entries) (directory_of old.blocks)) (files_of old.blocks) × (directory : DirectoryState) × (with_list (λ d. moved_down name d.entries) (directory_of old.blocks) ≡ Ok directory) × StopsInPart old.blocks new.blocks directory (counted_more size old.writes) new.writes)
  pub blocks : KeepsBlocks old.blocks new.blocks (place - gap) size
  pub reads : new.reads ≡ counted_more size old.reads
  pub others : HasFailed (record old { reads = new.reads }) new

-- A read failed of the file that is to be moved down, and nothing is changed but the counts of reads.
pub record MoveMissed (old new : MountState) : Type 0 where
  pub name : ℕ
  pub gap : ℕ
  pub lowest : lowest_or (directory_of old.blocks) ≡ Some (name, gap)
  pub place : ℕ
  pub size : ℕ
  pub was : extent_or name (directory_of old.blocks) ≡ Some (place, size)
  pub reads : RisesBy size old.reads new.reads

abbrev pub Squeezes : MountState → Result Squeezed FileFault → MountState → Type 0
Squeezes old (Ok (Moved name)) new = HasMoved old name new
Squeezes old (Ok Nothing) new = IsReady old × (above_of old.blocks ≡ 0) × (new ≡ old)
Squeezes old (Err TentativeOpen) new = (old.stopped ≡ false) × (begun : NewFile) × (old.tentative ≡ Some begun) × (new ≡ old)
Squeezes old (Err DirectoryFull) new = IsReady old × (name : ℕ) × (gap : ℕ) × (lowest_or (directory_of old.blocks) ≡ Some (name, gap)) × (limit_of old.blocks < entries_moved name old.blocks) × (0 < above_of old.blocks) × IsOver old.blocks (files_of old.blocks) × (new ≡ old)
Squeezes old (Err Device) new = (IsReady old × HasMissed old new × MoveMissed old new) ⊎ MoveFailed old new
Squeezes old (Err Stopped) new = HasStopped old new
Squeezes old (Err Memory) new = IsReady old × (0 < above_of old.blocks) × (new ≡ old)
Squeezes old (Err fault) new = ⊥
