use Rattle.name_spelling.proofs.PlainLemmas.{shown_is_typed}
use Rattle.name_spelling.proofs.laws.typed_names.Goals as goal

pub returns : goal.returns
returns c = shown_is_typed
