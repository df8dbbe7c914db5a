use Rattle.name_spelling.proofs.PlainLemmas.{plain_is_shown, plain_is_typed}
use Rattle.name_spelling.proofs.laws.plain_names.Goals as goal

pub returns : goal.returns
returns c = record {
  typed = plain_is_typed;
  shown = plain_is_shown;
}
