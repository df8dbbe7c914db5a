use Rattle.drive_files.proofs.OutputLemmas.{saves-text}
use Rattle.drive_files.proofs.laws.saves_print_nothing.Goals as goal

pub returns : goal.returns
returns c = saves-text
