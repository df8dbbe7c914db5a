use Rattle.pal_lex.proofs.JoinLemmas.{ends_join}
use Rattle.pal_lex.proofs.laws.source_ends_join.Goals as goal

pub returns : goal.returns
returns c = ends_join
