-- What steps of the code that puts many files do. No contract of a public function cites these.
use Rattle.std.specs.Prelude.{◌≡◌, ℕ, ◌+◌, ◌<◌, Option, Result, Ok, Err, List, ◌++◌, length, map}
use Rattle.os8_files.specs.Mounted.{MountState}
use Rattle.os8_dir.specs.declared.file_faults.FileFault.TheVariants.{Device}
use Rattle.refusals.specs.declared.faults.SessionFault.{SessionFault}
use Rattle.refusals.specs.declared.faults.SessionFault.TheVariants.{File, Memory}
use Rattle.archive_many.specs.Putting.{ArePut, HasPutFile, IsRefusedAt, IsRefusedFile, blocks_in}
use Rattle.archive_many.specs.declared.putting.NewFile.{NewFile}

-- a volume gets a new file of so many blocks, or why not
abbrev pub PutsFile : MountState → Option (List ℕ) → NewFile → Result ℕ SessionFault → MountState → Type 0
PutsFile old info file (Ok count) new = HasPutFile old info file new × (count ≡ blocks_in file)
PutsFile old info file (Err Memory) new = Unit {0}
PutsFile old info file (Err (File Device)) new = 0 < new.failed_writes
PutsFile old info file (Err fault) new = IsRefusedFile old info file fault

-- one of some new files is refused, and so many counts were appended for those before it
pub record IsRefusedAfter (old : MountState) (info : Option (List ℕ)) (files : List NewFile) (before after : List ℕ) (fault : SessionFault) : Type 0 where
  pub place : ℕ
  pub counted : length after ≡ length before + place
  pub refused : IsRefusedAt old info files place fault

-- a volume gets new files, whose blocks are appended to other counts, or one of them is refused
abbrev pub PutsFiles : MountState → Option (List ℕ) → List NewFile → Result (Unit {0}) SessionFault → List ℕ → List ℕ → MountState → Type 0
PutsFiles old info files (Ok done) before after new = ArePut old info files new × (after ≡ before ++ map blocks_in files)
PutsFiles old info files (Err Memory) before after new = Unit {0}
PutsFiles old info files (Err (File Device)) before after new = 0 < new.failed_writes
PutsFiles old info files (Err fault) before after new = IsRefusedAfter old info files before after fault
