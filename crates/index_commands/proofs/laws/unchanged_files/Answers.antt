use Rattle.index_commands.proofs.KeepLemmas.{indexes-keeps}
use Rattle.index_commands.proofs.laws.unchanged_files.Goals as goal

pub returns : goal.returns
returns c = indexes-keeps c.kept_files.ensures.looks_image c.kept_files.ensures.prints
