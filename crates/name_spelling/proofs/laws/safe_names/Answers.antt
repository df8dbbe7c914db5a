use Rattle.name_spelling.proofs.TextLemmas.{texts_are_safe}
use Rattle.name_spelling.proofs.laws.safe_names.Goals as goal

pub returns : goal.returns
returns c = texts_are_safe
