-- How far a job is in the files that it reads.
use Rattle.std.specs.Prelude.{◌≡◌, ℕ, ◌+◌, ◌*◌, ◌<◌, ◌≤◌, Some, List, ◌++◌, length, take}
use Rattle.word12.specs.declared.sizes.TheConstants.{BLOCK}
use Rattle.std.specs.FinMap.{get}
use Rattle.char_pack.specs.Packing.{frames}
use Rattle.char_pack.specs.declared.packing.TheConstants.{BLOCK_FRAMES}
use Rattle.bin_tape.specs.Items.{Item}
use Rattle.bin_tape.specs.Tape.{IsTape}
use Rattle.core_load.specs.Loading as load
use Rattle.core_load.specs.Load.{IsFed, IsFine}
use Rattle.os8_dir.specs.Files.{Files}
use Rattle.volume_jobs.specs.declared.loading.Loading.{Loading}
use Rattle.pal_blocks.specs.Blocks.{blocks_in, first_blocks, block_at}
use Rattle.volume_jobs.specs.Schedule.{loading_turns}

-- The frames that a job has taken of a file: those of so many first blocks. Of the next block they are as many as were
-- taken before want of memory broke a turn off.
abbrev pub frames_taken : List ℕ → ℕ → ℕ → List ℕ
frames_taken words done offset = frames (first_blocks done words) ++ take offset (frames (block_at done words))

-- ## Loading

-- a loader was given these frames, which are a tape or may go on as one
pub record HasTaken (loader : load.Loading) (given : List ℕ) : Type 0 where
  pub fed : IsFed loader given
  pub fine : IsFine given

-- the files have these words under a name
abbrev pub HasWords : Files → ℕ → List ℕ → Type 0
HasWords files name words = (info : List ℕ) × (get files name ≡ Some (info, words))

-- A job that loads a file of these words stands so with so many turns left. It has read the beginning of the file, and it has
-- found it to be a tape where one turn is left.
pub record IsLoading (words : List ℕ) (job : Loading) (left : ℕ) : Type 0 where
  pub whole : BLOCK * blocks_in words ≡ length words
  pub turns : job.blocks_read + left ≡ loading_turns (blocks_in words)
  pub more : 1 ≤ left
  pub offset : job.offset < BLOCK_FRAMES
  pub taken : HasTaken job.loader (frames_taken words job.blocks_read job.offset)
  pub at_end : left ≡ 1 → (job.offset ≡ 0) × ((items : List Item) × IsTape (frames words) items)
