use Rattle.os8_files.proofs.WholeLemmas.{few-above}
use Rattle.os8_files.proofs.laws.files_above.Goals as goal

pub returns : goal.returns
returns c = few-above c.directory_numbers.ensures.above c.sound_directory.ensures c.files_made.ensures c.entry_counts.ensures.files c.unsound_volumes.ensures.above
