use Rattle.name_spelling.proofs.TextLemmas.{shown_is_read}
use Rattle.name_spelling.proofs.laws.shown_names.Goals as goal

pub returns : goal.returns
returns c = shown_is_read
