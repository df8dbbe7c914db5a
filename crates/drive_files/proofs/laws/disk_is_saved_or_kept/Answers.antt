use Rattle.drive_files.proofs.SaveLemmas.{saved-or-kept}
use Rattle.drive_files.proofs.laws.disk_is_saved_or_kept.Goals as goal

pub returns : goal.returns
returns c = saved-or-kept
