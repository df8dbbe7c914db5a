use Rattle.image_files.proofs.KindLemmas.{kept-kind}
use Rattle.image_files.proofs.laws.kept_kind.Goals as goal

pub returns : goal.returns
returns c = kept-kind
