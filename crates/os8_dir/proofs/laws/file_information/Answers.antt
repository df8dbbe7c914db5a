use Rattle.os8_dir.proofs.InformationLemmas.{file-information}
use Rattle.os8_dir.proofs.laws.file_information.Goals as goal

pub returns : goal.returns
returns c = file-information
