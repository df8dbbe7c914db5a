use Rattle.cpu8.proofs.AutoIndexLemmas.{auto-address, auto-pointer}
use Rattle.cpu8.proofs.laws.auto_index.Goals as goal

pub returns : goal.returns
returns c = record { address = auto-address; pointer = auto-pointer }
