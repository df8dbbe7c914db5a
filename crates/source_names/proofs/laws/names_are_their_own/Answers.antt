use Rattle.source_names.proofs.LawLemmas.{are_different, are_given}
use Rattle.source_names.proofs.laws.names_are_their_own.Goals as goal

pub returns : goal.returns
returns c = record { given = are_given; different = are_different }
