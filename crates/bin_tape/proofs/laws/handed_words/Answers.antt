use Rattle.bin_tape.proofs.Scan.{whole_words, open_words}
use Rattle.bin_tape.proofs.laws.handed_words.Goals as goal

pub returns : goal.returns
returns c = record { of_tape = whole_words; of_prefix = open_words }
