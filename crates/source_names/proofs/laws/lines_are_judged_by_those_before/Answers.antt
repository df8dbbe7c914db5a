use Rattle.source_names.proofs.SaidLemmas.{are_said, first_refused}
use Rattle.source_names.proofs.laws.lines_are_judged_by_those_before.Goals as goal

pub returns : goal.returns
returns c = record { names = are_said; fault = first_refused }
