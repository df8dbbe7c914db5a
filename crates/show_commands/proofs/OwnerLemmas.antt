-- The files of an image that is refused.
use Rattle.std.proofs.Common.{◌≡◌, ◌∙◌, ℕ, List, Result, Ok, Err, ap}
use Rattle.std.specs.Global.{Vec}
use Rattle.archive_files.specs.declared.faults.ArchiveFault.{ArchiveFault}
use Rattle.archive_files.specs.declared.faults.ArchiveFault.TheVariants.{Image, Directory, Refused}
use Rattle.archive_many.specs.Opened.{OpensVolume}
use Rattle.archive_many.specs.declared.opened.VolumeFile.{VolumeFile}
use Rattle.outcome.specs.declared.endings.Ending.{Ending}
use Rattle.outcome.specs.declared.endings.Ending.TheVariants.{Fault}
use Rattle.show_commands.specs.DumpSteps.{HasNone}
use Rattle.show_commands.specs.Dumping.{HasFiles}

pub none-known : (image : List ℕ) (fault : ArchiveFault) (result : Result (Vec VolumeFile) Ending) → OpensVolume image (Err fault) → HasNone fault result
    → HasFiles image result
none-known image (Image fault) (Ok files) opens none = (Err (Image fault), opens, none)
none-known image (Image fault) (Err ending) opens none = absurd none
none-known image (Directory fault) (Ok files) opens none = (Err (Directory fault), opens, none)
none-known image (Directory fault) (Err ending) opens none = absurd none
none-known image (Refused fault) (Ok files) opens none = absurd none
none-known image (Refused fault) (Err ending) opens none = none ∙ ap Fault opens.0
