use Rattle.archive_many.proofs.VolumeLemmas.{each-lies}
use Rattle.archive_many.proofs.laws.files_lie.Goals as goal

pub returns : goal.returns
returns c = each-lies c.files_found.ensures c.sound_directory.ensures
