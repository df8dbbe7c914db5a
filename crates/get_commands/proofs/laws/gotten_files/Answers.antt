use Rattle.get_commands.proofs.GettingMany.{folder-alone, none-replaced, one-folder}
use Rattle.get_commands.proofs.laws.gotten_files.Goals as goal

pub returns : goal.returns
returns c = record { folder = folder-alone; made = one-folder; older = none-replaced }
