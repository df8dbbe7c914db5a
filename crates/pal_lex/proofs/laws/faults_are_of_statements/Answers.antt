use Rattle.pal_lex.proofs.ReadingLemmas.{known_fault}
use Rattle.pal_lex.proofs.laws.faults_are_of_statements.Goals as goal

pub returns : goal.returns
returns c = known_fault
