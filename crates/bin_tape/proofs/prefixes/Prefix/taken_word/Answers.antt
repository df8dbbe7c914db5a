use Rattle.bin_tape.proofs.PrefixLemmas.{word_none, word_some}
use Rattle.bin_tape.proofs.prefixes.Prefix.taken_word.Goals as goal

pub returns-in-None : goal.returns-in-None
returns-in-None c = λ items r. word_none _ _ items _ _ c.requires.high c.in-None.is r c.with_word-later.ensures

pub returns-in-Some : goal.returns-in-Some
returns-in-Some c = λ items r. word_some _ _ items _ _ _ c.requires.high c.in-Some.is r c.with_word-later.ensures
