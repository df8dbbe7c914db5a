use Rattle.profile8.proofs.LawLemmas.{same_profile}
use Rattle.profile8.proofs.laws.one_profile.Goals as goal

pub returns : goal.returns
returns c = λ counts given text other left right. same_profile counts given text other left right
