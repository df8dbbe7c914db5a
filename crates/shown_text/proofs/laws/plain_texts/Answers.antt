use Rattle.shown_text.proofs.ShowLemmas.{plain_is_shown}
use Rattle.shown_text.proofs.laws.plain_texts.Goals as goal

pub returns : goal.returns
returns c = plain_is_shown
