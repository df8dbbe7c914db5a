-- What steps of the code that shows blocks do. No contract of a public function cites these.
use Rattle.std.specs.Prelude.{◌≡◌, Result, Ok, Err, []}
use Rattle.std.specs.Global.{Vec}
use Rattle.archive_files.specs.declared.faults.ArchiveFault.{ArchiveFault}
use Rattle.archive_files.specs.declared.faults.ArchiveFault.TheVariants.{Image, Directory, Refused}
use Rattle.archive_many.specs.declared.opened.VolumeFile.{VolumeFile}
use Rattle.outcome.specs.declared.endings.Ending.{Ending}
use Rattle.outcome.specs.declared.endings.Ending.TheVariants.{Fault}

-- no files are known of an image that is refused; want of memory ends the command
abbrev pub HasNone : ArchiveFault → Result (Vec VolumeFile) Ending → Type 0
HasNone (Image fault) (Ok files) = files.items ≡ []
HasNone (Image fault) (Err ending) = ⊥
HasNone (Directory fault) (Ok files) = files.items ≡ []
HasNone (Directory fault) (Err ending) = ⊥
HasNone (Refused fault) (Ok files) = ⊥
HasNone (Refused fault) (Err ending) = ending ≡ Fault fault
