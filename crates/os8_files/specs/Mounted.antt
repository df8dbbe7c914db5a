-- What is seen of a mounted volume.
use Rattle.std.specs.Prelude.{◌≡◌, ◌≤◌, ◌<◌, ◌+◌, ℕ, Bool, false, Option, Some, List, length, Ok}
use Rattle.volume_image.specs.Volume.{IsVolume}
use Rattle.os8_dir.specs.Entries.{DirectoryState, IsNamed}
use Rattle.os8_dir.specs.Found.{rooms_at}
use Rattle.os8_dir.specs.Changes.{IsRoom}
use Rattle.os8_dir.specs.Reading.{directory_of, block}

-- a file that is being written: its name, its first block, the blocks that it may grow to, and those written
pub record NewFile : Type 0 where
  pub name : ℕ
  pub place : ℕ
  pub room : ℕ
  pub blocks_written : ℕ

pub record MountState : Type 0 where
  -- the words of the store's blocks
  pub blocks : List (List ℕ)
  pub reads : ℕ
  pub writes : ℕ
  pub failed_reads : ℕ
  pub failed_writes : ℕ
  -- a write has failed
  pub stopped : Bool
  -- the directory as it was held when that write failed
  pub last : Option DirectoryState
  -- the names that are held, in name order, one as often as it is held
  pub holds : List ℕ
  pub tentative : Option NewFile

-- a file that is being written lies at the beginning of an empty, and is no longer than that
pub record IsBegun (directory : DirectoryState) (begun : NewFile) : Type 0 where
  pub named : IsNamed begun.name
  pub room : IsRoom begun.place begun.room (rooms_at directory.first directory.entries)
  pub most : begun.blocks_written ≤ begun.room

-- six blocks that are kept have the words of blocks 1 to 6
pub record AreSegments (blocks kept : List (List ℕ)) : Type 0 where
  pub size : length kept ≡ 6
  pub words : (k : ℕ) → k < 6 → block kept k ≡ block blocks (k + 1)

-- the entries and the words of blocks 1 to 6 that are kept are those of the volume, which is sound, until a write fails
pub record IsMounted (blocks low : List (List ℕ)) (directory : DirectoryState) (stopped : Bool) (tentative : Option NewFile) : Type 0 where
  pub segments : stopped ≡ false → AreSegments blocks low
  pub volume : IsVolume blocks
  pub kept : stopped ≡ false → directory_of blocks ≡ Ok directory
  pub begun : stopped ≡ false → (begun : NewFile) → tentative ≡ Some begun → IsBegun directory begun
