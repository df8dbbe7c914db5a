use Rattle.std.proofs.Common.{ap}
use Rattle.os8_dir.specs.Files.{files_of, files_in, files_or}
use Rattle.os8_dir.proofs.laws.files_made.Goals as goal

pub returns : goal.returns
unfolding files_of files_in
returns c = λ blocks d read. ap (files_or blocks) read
