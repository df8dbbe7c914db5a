use Rattle.script_commands.proofs.LawLemmas.{script-keeps}
use Rattle.script_commands.proofs.laws.unchanged_files.Goals as goal

pub returns : goal.returns
returns g c named form is_typed before after never = script-keeps c.kept_files.ensures.looks c.kept_files.ensures.refuses named form is_typed _ never
