use Rattle.pal_lex.proofs.JoinLemmas.{byte_goes_on}
use Rattle.pal_lex.proofs.laws.byte_goes_on.Goals as goal

pub returns : goal.returns
returns c = byte_goes_on
