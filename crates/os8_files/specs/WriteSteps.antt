-- What the blocks are where a directory is written, for private clauses.
use lib.Pointwise.{pointwise}
use Rattle.std.specs.Prelude.{nat_eq, if◌then◌else◌, ◌≡◌, ◌⊎◌, ◌-◌, ◌≤◌, ◌<◌, take, ℕ, zero, suc, List, [], ◌∷◌, length, drop, slice_set, Result, Ok, Err}
use Rattle.word12.specs.declared.sizes.TheConstants.{FIRST_FILE_BLOCK}
use Rattle.os8_dir.specs.Entries.{DirectoryState}
use Rattle.os8_dir.specs.Reading.{directory_of, block}
use Rattle.os8_dir.specs.Segments.{segment_of, segment_count, HoldsSegments}
use Rattle.os8_files.specs.Mounted.{MountState}
use Rattle.os8_files.specs.Calls.{WritesFew, HasFailed, HasMissed, RisesBy, StopsInPart, counted_more}
use Rattle.os8_dir.specs.declared.file_faults.FileFault.{FileFault}
use Rattle.os8_dir.specs.declared.file_faults.FileFault.TheVariants.{Device, Memory}

-- so many segments of a directory stand in blocks 1, 2 and so on
abbrev pub with_segments : ℕ → DirectoryState → List (List ℕ) → List (List ℕ)
with_segments zero d blocks = blocks
with_segments (suc k) d blocks = slice_set (with_segments k d blocks) (suc k) (segment_of d k)

-- how many of the first segments of a directory are not what the blocks hold
abbrev pub count_of_changed : ℕ → DirectoryState → List (List ℕ) → ℕ
count_of_changed zero d blocks = 0
count_of_changed (suc k) d blocks = if pointwise nat_eq (block blocks (suc k)) (segment_of d k) then count_of_changed k d blocks else suc (count_of_changed k d blocks)

-- another directory is written, which is read back as it
pub record HasDirectory (old : MountState) (d : DirectoryState) (new : MountState) : Type 0 where
  pub high : drop FIRST_FILE_BLOCK new.blocks ≡ drop FIRST_FILE_BLOCK old.blocks
  pub first : block new.blocks 0 ≡ block old.blocks 0
  pub size : length new.blocks ≡ length old.blocks
  pub read : directory_of new.blocks ≡ Ok d
  pub segments : HoldsSegments new.blocks d
  pub unused : (k : ℕ) → segment_count d < k → block new.blocks k ≡ block old.blocks k
  pub writes : WritesFew old new
  pub others : new ≡ record old { blocks = new.blocks; writes = new.writes }

-- of all blocks only 1 to 6 may differ
pub record KeepsHigh (old new : List (List ℕ)) : Type 0 where
  pub high : drop FIRST_FILE_BLOCK new ≡ drop FIRST_FILE_BLOCK old
  pub first : block new 0 ≡ block old 0
  pub size : length new ≡ length old

abbrev pub RewritesDirectory : MountState → DirectoryState → Result (Unit {0}) FileFault → MountState → Type 0
RewritesDirectory old d (Ok nothing) new = HasDirectory old d new
RewritesDirectory old d (Err Device) new = HasFailed old new × KeepsHigh old.blocks new.blocks × StopsInPart old.blocks new.blocks d old.writes new.writes
RewritesDirectory old d (Err fault) new = ⊥

-- blocks are written one after the other from a place on
abbrev pub with_run : List (List ℕ) → ℕ → List (List ℕ) → List (List ℕ)
with_run blocks place [] = blocks
with_run blocks place (words ∷ run) = with_run (slice_set blocks place words) (suc place) run

-- At most so many blocks were written one after the other from a place on; the last of them may have any words. The count of
-- writes has risen by one for each.
pub record HasBrokenOff (old : List (List ℕ)) (place size : ℕ) (new : List (List ℕ)) (before after : ℕ) : Type 0 where
  pub run : List (List ℕ)
  pub some : 0 < length run
  pub short : length run ≤ size
  pub blocks : new ≡ with_run old place run
  pub writes : after ≡ counted_more (length run) before

-- a run of blocks is copied so many blocks down
abbrev pub CopiesBlocks : MountState → ℕ → ℕ → ℕ → Result (Unit {0}) FileFault → MountState → Type 0
CopiesBlocks old place size gap (Ok nothing) new = (new.blocks ≡ with_run old.blocks (place - gap) (take size (drop place old.blocks))) × (new ≡ record old { blocks = new.blocks; reads = new.reads; writes = new.writes }) × (new.writes ≡ counted_more size old.writes) × (new.reads ≡ counted_more size old.reads)
CopiesBlocks old place size gap (Err Device) new = (HasMissed old new × RisesBy size old.reads new.reads) ⊎ (HasFailed (record old { reads = new.reads }) new × (new.reads ≡ counted_more size old.reads) × HasBrokenOff old.blocks (place - gap) size new.blocks old.writes new.writes)
CopiesBlocks old place size gap (Err Memory) new = new ≡ old
CopiesBlocks old place size gap (Err fault) new = ⊥
