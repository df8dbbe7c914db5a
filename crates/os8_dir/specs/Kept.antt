-- What a directory in memory keeps.
use Rattle.std.specs.Prelude.{◌≡◌, ℕ, ◌+◌, ◌≤◌, List}
use Rattle.word12.specs.declared.sizes.TheConstants.{FIRST_FILE_BLOCK, MOST_BLOCKS}
use Rattle.os8_dir.specs.declared.entries.DirEntry.{DirEntry}
use Rattle.os8_dir.specs.Entries.{total, IsTidy}

-- it lies in blocks 7 to 4094, `end` is the block after its last entry, and its list is tidy
pub record IsKept (first info end : ℕ) (entries : List DirEntry) : Type 0 where
  pub starts : FIRST_FILE_BLOCK ≤ first
  pub few : info ≤ 10
  pub ends : end ≡ first + total entries
  pub most : end ≤ MOST_BLOCKS
  pub neat : IsTidy entries
