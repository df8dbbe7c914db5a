-- What small steps of the code answer. No contract of a public function cites these.
use Rattle.std.specs.Prelude.{◌≡◌, ◌≤◌, ℕ, suc, ◌==◌, nat_lt, if◌then◌else◌, false, Some, List, [], ◌∷◌, Result, Ok, Err, ◌<◌}
use Rattle.os8_dir.specs.Files.{files_of, limit_of, above_of, capacity_of, run}
use Rattle.os8_files.specs.Mounted.{MountState, NewFile, IsBegun}
use Rattle.os8_files.specs.Failed.{KeepsDirectory, FoundAgain}
use Rattle.os8_files.specs.Calls.{HasFailed, KeepsBlocks, RisesBy, WithoutNewFile, counted_more, info_of, IsFree, IsHeld, IsReady, IsOver, entries_with, new_held, HasClosed, PlaceFailed}
use Rattle.os8_dir.specs.declared.file_faults.FileFault.{FileFault}
use Rattle.os8_dir.specs.declared.file_faults.FileFault.TheVariants.{Device, DirectoryFull, Busy, Memory, NothingWritten}
use Rattle.std.specs.FinMap.{insert}
use Rattle.os8_dir.specs.Entries.{DirectoryState}
use Rattle.os8_dir.specs.Reading.{directory_of}

-- how many holds stand before the place of a name
abbrev pub place_of : ℕ → List ℕ → ℕ
place_of name [] = 0
place_of name (held ∷ holds) = if nat_lt held name then suc (place_of name holds) else 0

-- how many holds stand before the first of a name; all where there is none
abbrev pub first_of : ℕ → List ℕ → ℕ
first_of name [] = 0
first_of name (held ∷ holds) = if held == name then 0 else suc (first_of name holds)

-- a file was begun, of which nothing is written, and it may grow to so many blocks
pub record IsBeginning (m : MountState) (token blocks : ℕ) : Type 0 where
  pub running : m.stopped ≡ false
  pub begun : NewFile
  pub was : m.tentative ≡ Some begun
  pub name : begun.name ≡ token
  pub none : begun.blocks_written ≡ 0
  pub fits : blocks ≤ begun.room

-- so many blocks of a file that was begun have these words; no file is changed
pub record HasFilled (old : MountState) (begun : NewFile) (words : List ℕ) (blocks : ℕ) (new : MountState) : Type 0 where
  pub was : old.tentative ≡ Some begun
  pub text : run new.blocks begun.place blocks ≡ words
  pub kept : KeepsDirectory old.blocks new.blocks
  pub others_kept : KeepsBlocks old.blocks new.blocks begun.place blocks
  pub files : files_of new.blocks ≡ files_of old.blocks
  pub capacity : capacity_of new.blocks ≡ capacity_of old.blocks
  pub limit : limit_of new.blocks ≡ limit_of old.blocks
  pub info : info_of new.blocks ≡ info_of old.blocks
  pub above : above_of new.blocks ≡ above_of old.blocks
  pub writes : new.writes ≡ counted_more blocks old.writes
  pub others : new ≡ record old { blocks = new.blocks; writes = new.writes; tentative = Some (record { name = begun.name; place = begun.place; room = begun.room; blocks_written = blocks }) }

-- a write of one of so many blocks of a file that was begun failed
pub record FillFailed (old : MountState) (blocks : ℕ) (new : MountState) : Type 0 where
  pub begun : NewFile
  pub was : old.tentative ≡ Some begun
  pub files : FoundAgain old.blocks new.blocks
  pub others_kept : KeepsBlocks old.blocks new.blocks begun.place blocks
  pub writes : RisesBy blocks old.writes new.writes
  pub others : HasFailed (WithoutNewFile old) (WithoutNewFile new)

abbrev pub FillsFile : MountState → List ℕ → ℕ → Result (Unit {0}) FileFault → MountState → Type 0
FillsFile old words blocks (Ok nothing) new = (begun : NewFile) × HasFilled old begun words blocks new
FillsFile old words blocks (Err Device) new = FillFailed old blocks new
FillsFile old words blocks (Err fault) new = ⊥

-- ## Calls

-- no write has failed, no file is being written, and this one lies at the beginning of an empty
pub record IsPlaced (m : MountState) (begun : NewFile) : Type 0 where
  pub ready : IsReady m
  pub directory : DirectoryState
  pub read : directory_of m.blocks ≡ Ok directory
  pub lies : IsBegun directory begun

-- what placing that file in the directory answers: where it is done, the file that was being written is closed
abbrev pub PlacesFile : MountState → ℕ → NewFile → List ℕ → Result (Unit {0}) FileFault → MountState → Type 0
PlacesFile old name begun info (Ok nothing) new = HasClosed (record old { tentative = Some begun }) name info new
PlacesFile old name begun info (Err NothingWritten) new = (begun.blocks_written ≡ 0) × (new ≡ old)
PlacesFile old name begun info (Err (Busy other)) new = (0 < begun.blocks_written) × (other ≡ name) × IsHeld old name × (new ≡ old)
PlacesFile old name begun info (Err DirectoryFull) new = (0 < begun.blocks_written) × IsFree old name × (limit_of old.blocks < entries_with begun info old.blocks) × IsOver old.blocks (insert (files_of old.blocks) name (new_held old begun info)) × (new ≡ old)
PlacesFile old name begun info (Err Device) new = PlaceFailed old begun info new
PlacesFile old name begun info (Err Memory) new = (0 < begun.blocks_written) × IsFree old name × (new ≡ old)
PlacesFile old name begun info (Err fault) new = ⊥
