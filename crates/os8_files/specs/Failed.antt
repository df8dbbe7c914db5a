-- What a failed write leaves of the files of a volume (this project's profile).
use Rattle.std.specs.Prelude.{◌⊎◌, ◌≡◌, ◌≢◌, ℕ, ◌+◌, ◌<◌, ◌≤◌, Option, Some, None, List, length, Result, Ok, Err}
use Rattle.std.specs.FinMap.{get}
use Rattle.os8_dir.specs.Entries.{DirectoryState}
use Rattle.os8_dir.specs.Reading.{directory_of, block}
use Rattle.os8_dir.specs.Found.{FilePlace, files_at, find, extent_of, information_of}
use Rattle.os8_dir.specs.Segments.{segment_count, segment_of}
use Rattle.os8_dir.specs.Files.{FileData, Files, files_of, run}
use Rattle.os8_dir.specs.Changes.{directory_with, lowest_above, moved_down}
use Rattle.os8_dir.specs.declared.entries.DirEntry.{DirEntry}
use Rattle.os8_dir.specs.declared.faults.DirFault.{DirFault}

-- the blocks of a file that may be there
abbrev pub size_or_none : Option FilePlace → Option ℕ
size_or_none None = None
size_or_none (Some f) = Some f.size

-- where the file of a name lies
abbrev pub extent_or : ℕ → Result DirectoryState DirFault → Option (ℕ × ℕ)
extent_or name (Ok d) = extent_of (find name (files_at d.first d.entries))
extent_or name (Err fault) = None

-- how many blocks the file of a name has in a directory
abbrev pub size_in : DirectoryState → ℕ → Option ℕ
size_in d name = size_or_none (find name (files_at d.first d.entries))

-- the information words that the file of a name has in a directory, with zeros after them
abbrev pub information_in : DirectoryState → ℕ → Option (List ℕ)
information_in d name = information_of (find name (files_at d.first d.entries))

-- blocks 1 to 6 are as before, so a volume that is mounted again has the directory that it had
pub record KeepsDirectory (old new : List (List ℕ)) : Type 0 where
  pub count : length new ≡ length old
  pub segments : (k : ℕ) → 1 ≤ k → k ≤ 6 → block new k ≡ block old k
  pub directory : directory_of new ≡ directory_of old

-- mounting the volume again finds every file with its information words and its words
pub record FoundAgain (old new : List (List ℕ)) : Type 0 where
  pub kept : KeepsDirectory old new
  pub files : files_of new ≡ files_of old

-- mounting it again finds every other file so; and this one too, but perhaps where it is longer than the gap below it
pub record FoundAgainBut (old new : List (List ℕ)) (name size gap : ℕ) : Type 0 where
  pub kept : KeepsDirectory old new
  pub others : (other : ℕ) → name ≢ other → get (files_of new) other ≡ get (files_of old) other
  pub short : size ≤ gap → files_of new ≡ files_of old

-- the words of each of these files stand in full in the blocks where this directory has the file, mounted or not
abbrev pub StandInFull : List (List ℕ) → Result DirectoryState DirFault → Files → Type 0
StandInFull blocks directory files = (name : ℕ) (file : FileData) → get files name ≡ Some file → (place : ℕ) × (size : ℕ) × (extent_or name directory ≡ Some (place, size)) × (run blocks place size ≡ file.1)

-- what a directory is read as, with another list of entries
abbrev pub with_list : (DirectoryState → List DirEntry) → Result DirectoryState DirFault → Result DirectoryState DirFault
with_list made (Ok d) = Ok (directory_with d (made d))
with_list made (Err fault) = Err fault

-- the lowest file with an empty directly below it, and that empty's blocks
abbrev pub lowest_or : Result DirectoryState DirFault → Option (ℕ × ℕ)
lowest_or (Ok d) = lowest_above d.entries
lowest_or (Err fault) = None

-- the directory that blocks are read as, where they are sound
abbrev pub directory_or : Result DirectoryState DirFault → Option DirectoryState
directory_or (Ok d) = Some d
directory_or (Err fault) = None

-- A directory was being written in rising order. Blocks below one that it takes have its segments, that one has any words, and
-- those above it up to 6 are as before.
pub record IsWrittenInPart (old new : List (List ℕ)) (directory : DirectoryState) : Type 0 where
  pub number : ℕ
  pub taken : number < segment_count directory
  pub low : number < 6
  pub below : (k : ℕ) → k < number → block new (k + 1) ≡ segment_of directory k
  pub above : (k : ℕ) → number + 1 < k → k ≤ 6 → block new k ≡ block old k

-- this file is the lowest with an empty directly below it, and is found again where it is no longer than that
pub record MovedInPart (old new : List (List ℕ)) : Type 0 where
  pub name : ℕ
  pub gap : ℕ
  pub lowest : lowest_or (directory_of old) ≡ Some (name, gap)
  pub place : ℕ
  pub size : ℕ
  pub was : extent_or name (directory_of old) ≡ Some (place, size)
  pub found : FoundAgainBut old new name size gap

-- each file stands in full where it lay, and a directory was written in part
pub record KeptInFull (old new : List (List ℕ)) : Type 0 where
  pub files : StandInFull new (directory_of old) (files_of old)
  pub directory : DirectoryState
  pub part : IsWrittenInPart old new directory

-- each file stands in full where it lies when that one is moved down, and the directory that says so was written in part
pub record MovedInFull (old new : List (List ℕ)) : Type 0 where
  pub name : ℕ
  pub gap : ℕ
  pub lowest : lowest_or (directory_of old) ≡ Some (name, gap)
  pub files : StandInFull new (with_list (λ d. moved_down name d.entries) (directory_of old)) (files_of old)
  pub directory : DirectoryState
  pub list : with_list (λ d. moved_down name d.entries) (directory_of old) ≡ Ok directory
  pub part : IsWrittenInPart old new directory

-- After a failed write either blocks 1 to 6 are as before, and mounting the volume again finds every file with its words. An
-- exception may be one that was being moved and is longer than the empty below it. Or the words of each file stand in full in
-- its old blocks or, where it was moved, in its new ones. Then of blocks 1 to 6 the first ones have segments of the new
-- directory, one has any words, and the others are as before.
abbrev pub Survives : List (List ℕ) → List (List ℕ) → Type 0
Survives old new = FoundAgain old new ⊎ (MovedInPart old new ⊎ (KeptInFull old new ⊎ MovedInFull old new))
