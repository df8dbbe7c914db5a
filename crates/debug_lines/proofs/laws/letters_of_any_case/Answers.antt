use Rattle.debug_lines.proofs.LawLemmas.{capital_says_same, small_says_same}
use Rattle.debug_lines.proofs.laws.letters_of_any_case.Goals as goal

pub returns : goal.returns
returns c = record {
  small = small_says_same;
  capital = capital_says_same;
}
