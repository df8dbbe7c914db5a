use Rattle.image_kind.proofs.LawLemmas.{whole_volume-first}
use Rattle.image_kind.proofs.laws.whole_volumes.Goals as goal

pub returns : goal.returns
returns c = whole_volume-first
