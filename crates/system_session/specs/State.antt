-- The state of the system machine. No store, entry list, segment or buffer is in it.
use Rattle.std.specs.Prelude.{ℕ, Bool, Option, List}
use Rattle.cpu8.specs.State as cpu
use Rattle.os8_dir.specs.Files.{Files}
use Rattle.volume_jobs.specs.Jobs.{Job}

-- what stands at the operator's console
pub record Console : Type 0 where
  -- the processor, with its core and Teletype
  pub machine : cpu.State
  -- for each cell, by its number, whether it has a break
  pub breaks : List Bool
  -- the characters printed since the volume was mounted, with all eight bits
  pub printed : List ℕ

pub record State : Type 0 where
  -- the map from names to information words and words
  pub files : Files
  -- how many blocks the directory covers
  pub capacity : ℕ
  -- how many entries the directory may have
  pub limit : ℕ
  -- how many information words a file has
  pub info : ℕ
  -- no file has a covered block of no file below it
  pub tight : Bool
  -- the jobs by their numbers
  pub jobs : List (Option Job)
  pub console : Console
