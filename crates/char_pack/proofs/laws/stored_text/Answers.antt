use Rattle.char_pack.proofs.TextLemmas.{text-stored, text-chars}
use Rattle.char_pack.proofs.laws.stored_text.Goals as goal

pub returns-clause-host : goal.returns-clause-host
returns-clause-host c = text-stored

pub returns-clause-characters : goal.returns-clause-characters
returns-clause-characters c = text-chars
