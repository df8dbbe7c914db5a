use Rattle.debug_lines.proofs.LawLemmas.{letter_stands, name_stands}
use Rattle.debug_lines.proofs.laws.names_of_verbs.Goals as goal

pub returns : goal.returns
returns c = record {
  name = name_stands;
  letter = letter_stands;
}
