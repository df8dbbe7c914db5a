use Rattle.program_laws.proofs.ArgumentLemmas.{loses}
use Rattle.program_laws.proofs.words.refused_arguments.Goals as goal

pub returns : goal.returns
returns c = loses c.quoted_names.ensures
