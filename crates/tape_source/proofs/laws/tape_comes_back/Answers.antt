use Rattle.std.proofs.Common.{sym, subst, ◌∙◌}
use Rattle.bin_tape.specs.Pairs.{ArePairs}
use Rattle.pal_lex.specs.Text.{text_of}
use Rattle.pal_asm.specs.Words.{pairs_of}
use Rattle.tape_source.specs.Sources.{words_of_tape}
use Rattle.tape_source.proofs.TapeLemmas.{below_pairs, pairs_reverse}
use Rattle.tape_source.proofs.laws.tape_comes_back.Goals as goal

pub returns : goal.returns
returns c = λ look frames text rest source.
    let pairs = pairs_of (text_of text) in
    let are : ArePairs pairs =
    subst ArePairs (sym source.says.pairs) (pairs_reverse (words_of_tape source.items) (below_pairs source.items 32768 source.is_tape.is_prefix.3)) in
    let tape = c.written_tape.ensures pairs rest are (c.has_words.ensures (text_of text) source.says.no_fault) in
    record { again = tape.items; is_tape = tape.is_tape; map = λ cell. tape.map cell ∙ source.says.map cell }
