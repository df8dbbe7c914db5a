use Rattle.volume_index.proofs.JsonLemmas.{same-ends}
use Rattle.volume_index.proofs.laws.object_lines.Goals as goal

pub returns : goal.returns
returns c = λ lines. same-ends 0 lines
