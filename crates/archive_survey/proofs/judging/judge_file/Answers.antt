use Rattle.archive_survey.proofs.JudgingLemmas.{knows_more}
use Rattle.archive_survey.proofs.judging.judge_file.Goals as goal

pub returns-then-new-clause-names : goal.returns-then-new-clause-names
returns-then-new-clause-names c = λ known knows. knows_more _ _ known c.args.name c.in_ok-new.ensures.more knows
