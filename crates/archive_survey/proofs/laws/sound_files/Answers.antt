use Rattle.archive_survey.proofs.FoundLemmas.{files-are-sound}
use Rattle.archive_survey.proofs.laws.sound_files.Goals as goal

pub returns : goal.returns
returns c = files-are-sound
