use Rattle.program_laws.proofs.RunLemmas.{prints-beginning}
use Rattle.program_laws.proofs.runs.printed_answers.Goals as goal

pub returns : goal.returns
returns g c form is_typed image session before after old result new r = prints-beginning form is_typed image session _ old result new r
