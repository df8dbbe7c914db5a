use Rattle.script_commands.proofs.LawLemmas.{crash-leaves}
use Rattle.script_commands.proofs.laws.crashes.Goals as goal

pub returns : goal.returns
returns c = crash-leaves
