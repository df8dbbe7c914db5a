use Rattle.script_commands.proofs.LawLemmas.{kept-before}
use Rattle.script_commands.proofs.laws.kept_changes.Goals as goal

pub returns : goal.returns
returns c = kept-before
