use Rattle.char_pack.proofs.TextLemmas.{characters-append, is_ended-append}
use Rattle.char_pack.proofs.laws.joined_text.Goals as goal

pub returns-clause-characters : goal.returns-clause-characters
returns-clause-characters c = characters-append

pub returns-clause-ended : goal.returns-clause-ended
returns-clause-ended c = is_ended-append
