use Rattle.os8_dir.proofs.LawLemmas.{IsDirectory-read}
use Rattle.os8_dir.proofs.laws.sound_directory.Goals as goal

pub returns : goal.returns
returns c = IsDirectory-read
