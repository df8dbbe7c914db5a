use Rattle.script_commands.proofs.LawLemmas.{no-more}
use Rattle.script_commands.proofs.laws.last_prints.Goals as goal

pub returns : goal.returns
returns c = no-more
