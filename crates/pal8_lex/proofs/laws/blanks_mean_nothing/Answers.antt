use Rattle.pal8_lex.proofs.LawLemmas.{blanks_are_one, blanks_before, blanks_after}
use Rattle.pal8_lex.proofs.laws.blanks_mean_nothing.Goals as goal

pub returns-clause-following : goal.returns-clause-following
returns-clause-following c = blanks_after

pub returns-clause-again : goal.returns-clause-again
returns-clause-again c = blanks_are_one

pub returns-clause-before : goal.returns-clause-before
returns-clause-before c = blanks_before
