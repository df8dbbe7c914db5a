use Rattle.cpu8.proofs.RunLemmas.{isz_zero, isz_other}
use Rattle.cpu8.proofs.laws.increment_and_skip.Goals as goal

pub returns : goal.returns
returns c = record { zero = isz_zero; other = isz_other }
