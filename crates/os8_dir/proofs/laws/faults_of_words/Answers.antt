use Rattle.os8_dir.proofs.LawLemmas.{IsOfWords-read}
use Rattle.os8_dir.proofs.laws.faults_of_words.Goals as goal

pub returns : goal.returns
returns c = IsOfWords-read
