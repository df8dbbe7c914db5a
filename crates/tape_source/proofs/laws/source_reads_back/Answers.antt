use Rattle.tape_source.proofs.ShownLemmas.{reads_back}
use Rattle.tape_source.proofs.laws.source_reads_back.Goals as goal

pub returns : goal.returns
returns c = reads_back
