use Rattle.show_commands.proofs.Looking.{checks-never, one-never}
use Rattle.show_commands.proofs.laws.shown_images.Goals as goal

pub returns : goal.returns
returns c = record { reports = one-never; checks = checks-never }
