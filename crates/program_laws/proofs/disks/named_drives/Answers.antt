use Rattle.program_laws.proofs.DriveLemmas.{opened-names, saved-names}
use Rattle.program_laws.proofs.disks.named_drives.Goals as goal

pub returns-clause-opened : goal.returns-clause-opened
returns-clause-opened c = opened-names

pub returns-clause-saved : goal.returns-clause-saved
returns-clause-saved c = saved-names
