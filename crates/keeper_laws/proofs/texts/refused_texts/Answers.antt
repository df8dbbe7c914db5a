use Rattle.keeper_laws.proofs.LineLemmas.{fault-text, line-text, told-line}
use Rattle.keeper_laws.proofs.texts.refused_texts.Goals as goal

pub returns-clause-faults : goal.returns-clause-faults
returns-clause-faults c = fault-text

pub returns-clause-lines : goal.returns-clause-lines
returns-clause-lines c = line-text

pub returns-clause-told : goal.returns-clause-told
returns-clause-told c = told-line
