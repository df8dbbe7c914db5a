use Rattle.os8_dir.proofs.NewLemmas.{new-sound, new-files, new-capacity}
use Rattle.os8_dir.proofs.laws.new_volumes.Goals as goal

pub returns : goal.returns
returns c = record { sound = new-sound; files = new-files; free = new-capacity }
