use Rattle.keeper_laws.proofs.ChoiceLemmas.{lists-keep}
use Rattle.keeper_laws.proofs.TextLemmas.{texts-keep}
use Rattle.keeper_laws.proofs.verb_laws.unchanged_files.Goals as goal

pub returns : goal.returns
returns c = let law = c.kept_files.ensures in record {
  lists = lists-keep law.looks_at law.prints law.refuses;
  texts = texts-keep law.looks_at law.prints law.refuses;
}
