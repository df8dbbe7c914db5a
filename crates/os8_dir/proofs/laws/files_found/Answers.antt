use Rattle.os8_dir.proofs.MapLemmas.{get-files_of}
use Rattle.os8_dir.proofs.laws.files_found.Goals as goal

pub returns : goal.returns
returns c = get-files_of
