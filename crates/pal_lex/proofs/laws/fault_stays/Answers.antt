use Rattle.pal_lex.proofs.LawLemmas.{fault_stays}
use Rattle.pal_lex.proofs.laws.fault_stays.Goals as goal

pub returns : goal.returns
returns c = fault_stays
