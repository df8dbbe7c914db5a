use Rattle.std.proofs.Common.{◌≡◌, ℕ, length}
use Rattle.word12.specs.declared.sizes.TheConstants.{CORE}
use Rattle.bin_tape.specs.Pairs.{ArePairs}
use Rattle.flow8.specs.Flow.{word_in}
use Rattle.pal_sym.specs.Values.{if_none}
use Rattle.pal8_asm.specs.Laws.{meaning}
use Rattle.pal8_source.proofs.comparing.given_words.Given as goal

-- the words of the pairs that are left come over those so far
abbrev pub invariant-loop-rest : goal.invariant-loop-rest
invariant-loop-rest l =
    (l.words.len ≡ CORE) × (ArePairs l.rest → ArePairs l.pairs) × ((cell : ℕ) → if_none (meaning l.rest cell) (word_in l.words.items cell) ≡ meaning l.pairs cell)

abbrev pub decreases-loop-rest : goal.decreases-loop-rest
decreases-loop-rest l = length l.rest
