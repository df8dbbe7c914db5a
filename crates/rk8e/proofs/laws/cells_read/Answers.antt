use Rattle.rk8e.proofs.LawLemmas.{read_on, others_on, kept_on}
use Rattle.rk8e.proofs.laws.cells_read.Goals as goal

pub returns-clause-words : goal.returns-clause-words
returns-clause-words c = read_on

pub returns-clause-others : goal.returns-clause-others
returns-clause-others c = others_on

pub returns-clause-kept : goal.returns-clause-kept
returns-clause-kept c = kept_on
