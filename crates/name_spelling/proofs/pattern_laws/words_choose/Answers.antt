use Rattle.std.proofs.Common.{refl}
use Rattle.name_spelling.proofs.SpelledLemmas.{all-like, spelled-alone}
use Rattle.name_spelling.proofs.pattern_laws.words_choose.Goals as goal

pub returns : goal.returns
returns c = record {
  all = record {
    choice = refl;
    like = all-like;
  };
  one = spelled-alone;
}
