use Rattle.os8_files.proofs.WholeLemmas.{whole-file}
use Rattle.os8_files.proofs.laws.whole_files.Goals as goal

pub returns : goal.returns
returns c = record {
  whole = λ blocks name file volume there. (whole-file c.files_found.ensures c.sound_directory.ensures c.files_inside.ensures.inside c.unsound_volumes.ensures.files blocks name file volume there).whole;
  some = λ blocks name file volume there. (whole-file c.files_found.ensures c.sound_directory.ensures c.files_inside.ensures.inside c.unsound_volumes.ensures.files blocks name file volume there).some;
  most = λ blocks name file volume there. (whole-file c.files_found.ensures c.sound_directory.ensures c.files_inside.ensures.inside c.unsound_volumes.ensures.files blocks name file volume there).most;
}
