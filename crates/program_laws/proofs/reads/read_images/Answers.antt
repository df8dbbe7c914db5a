use Rattle.program_laws.proofs.ReadLemmas.{image-read}
use Rattle.program_laws.proofs.reads.read_images.Goals as goal

pub returns : goal.returns
returns c = image-read
