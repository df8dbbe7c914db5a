-- What giving a file another name does (this project's profile).
use Rattle.std.specs.Prelude.{◌≡◌, ◌≢◌, ◌⊎◌, ℕ, ◌/◌, ◌<◌, ◌≤◌, false, None, Some, List, length, Result, Ok, Err}
use Rattle.std.specs.FinMap.{get, insert, remove}
use Rattle.os8_dir.specs.Entries.{DirectoryState, IsNamed}
use Rattle.os8_dir.specs.Reading.{directory_of}
use Rattle.os8_dir.specs.Files.{FileData, files_of, limit_of, above_of, capacity_of, of_directory}
use Rattle.os8_dir.specs.Renaming.{with_new_name}
use Rattle.os8_files.specs.Mounted.{MountState, NewFile}
use Rattle.os8_files.specs.Failed.{extent_or, with_list, StandInFull}
use Rattle.os8_files.specs.Calls.{IsReady, IsThere, IsFree, IsHeld, KeepsBlocks, IsWritten, WritesFew, HasFailed, HasStopped, StopsInPart, info_of}
use Rattle.os8_dir.specs.declared.file_faults.FileFault.{FileFault}
use Rattle.os8_dir.specs.declared.file_faults.FileFault.TheVariants.{NotFound, DirectoryFull, Busy, BadName, TentativeOpen, Device, Stopped, Memory}

-- how many entries the directory has
abbrev pub entries_of : List (List ℕ) → ℕ
entries_of blocks = of_directory (λ d. length d.entries) (directory_of blocks)

-- The file of a name has a new one, that no file had, with its information words and its words, and lies where it lay; so do the
-- others. Only blocks 1 to 6 may differ.
pub record HasRenamed (old : MountState) (name other : ℕ) (new : MountState) : Type 0 where
  pub ready : IsReady old
  pub named : IsNamed other
  pub file : FileData
  pub there : get (files_of old.blocks) name ≡ Some file
  pub fresh : get (files_of old.blocks) other ≡ None
  pub free : IsFree old name
  pub unheld : IsFree old other
  pub fits : entries_of old.blocks ≤ limit_of old.blocks
  pub list : directory_of new.blocks ≡ with_list (λ d. with_new_name name other d.entries) (directory_of old.blocks)
  pub place : extent_or other (directory_of new.blocks) ≡ extent_or name (directory_of old.blocks)
  pub places : (third : ℕ) → name ≢ third → other ≢ third → extent_or third (directory_of new.blocks) ≡ extent_or third (directory_of old.blocks)
  pub files : files_of new.blocks ≡ insert (remove (files_of old.blocks) name) other file
  pub capacity : capacity_of new.blocks ≡ capacity_of old.blocks
  pub limit : limit_of new.blocks ≡ limit_of old.blocks
  pub info : info_of new.blocks ≡ info_of old.blocks
  pub above : above_of new.blocks ≡ above_of old.blocks
  pub written : IsWritten old.blocks new.blocks
  pub blocks : KeepsBlocks old.blocks new.blocks 0 0
  pub writes : WritesFew old new
  pub others : new ≡ record old { blocks = new.blocks; writes = new.writes }

-- A write failed where a file gets another name. Each file stands in full in its blocks.
pub record RenameFailed (old : MountState) (name other : ℕ) (new : MountState) : Type 0 where
  pub ready : IsReady old
  pub named : IsNamed other
  pub there : IsThere old name
  pub free : IsFree old name
  pub unheld : IsFree old other
  pub files : StandInFull new.blocks (directory_of old.blocks) (files_of old.blocks)
  pub written : (directory : DirectoryState) × (with_list (λ d. with_new_name name other d.entries) (directory_of old.blocks) ≡ Ok directory) × StopsInPart old.blocks new.blocks directory old.writes new.writes
  pub blocks : KeepsBlocks old.blocks new.blocks 0 0
  pub others : HasFailed old new

-- the first of the two names that is held
abbrev pub IsBusy : MountState → ℕ → ℕ → ℕ → Type 0
IsBusy m name other busy = ((busy ≡ name) × IsHeld m name) ⊎ ((busy ≡ other) × IsFree m name × IsHeld m other)

abbrev pub RenamesFile : MountState → ℕ → ℕ → Result (Unit {0}) FileFault → MountState → Type 0
RenamesFile old name other (Ok nothing) new = HasRenamed old name other new
RenamesFile old name other (Err BadName) new = (old.stopped ≡ false) × (other / 68719476736 ≡ 0) × (new ≡ old)
RenamesFile old name other (Err TentativeOpen) new = (old.stopped ≡ false) × IsNamed other × (begun : NewFile) × (old.tentative ≡ Some begun) × (new ≡ old)
RenamesFile old name other (Err NotFound) new = IsReady old × IsNamed other × (get (files_of old.blocks) name ≡ None) × (new ≡ old)
RenamesFile old name other (Err (Busy busy)) new = IsReady old × IsNamed other × IsThere old name × IsBusy old name other busy × (new ≡ old)
RenamesFile old name other (Err DirectoryFull) new = IsReady old × IsNamed other × IsThere old name × IsFree old name × IsFree old other × (limit_of old.blocks < entries_of old.blocks) × (new ≡ old)
RenamesFile old name other (Err Device) new = RenameFailed old name other new
RenamesFile old name other (Err Stopped) new = HasStopped old new
RenamesFile old name other (Err Memory) new = IsReady old × IsNamed other × IsThere old name × IsFree old name × IsFree old other × (new ≡ old)
RenamesFile old name other (Err fault) new = ⊥
