-- What a block does in the two passes, for private clauses.
use Rattle.std.specs.Prelude.{◌≡◌, ℕ, Bool, None, Result, Ok, Err, List, ◌++◌, take}
use Rattle.char_pack.specs.Packing.{frames, packed_blocks, IsBlockPacking}
use Rattle.char_pack.specs.Texts.{is_ended}
use Rattle.pal_lex.specs.Text.{text_from}
use Rattle.pal_asm.specs.Places.{Source, values}
use Rattle.pal_asm.specs.Faults.{first_order, words_fault}
use Rattle.pal_asm.specs.Passing.{TellsJoinFault, HasPassed, HasMade}
use Rattle.pal_faults.specs.declared.assembling.AsmFault.{AsmFault}
use Rattle.pal_faults.specs.declared.assembling.AsmFault.TheVariants.{At, Memory}
use Rattle.pal_asm.specs.declared.passing.Pass.{Pass}
use Rattle.pal_blocks.specs.Passing.{text_in, characters_added}
use Rattle.bin_tape.specs.Pairs.{ArePairs}
use Rattle.bin_tape.specs.Writing.{tape_of}

-- what a block does after frames of the same source
abbrev pub PassesBlock : List ℕ → Bool → List ℕ → List ℕ → ℕ → Result (Unit {0}) AsmFault → Pass → Type 0
PassesBlock prefix several given block offset (Ok nothing) pass =
    HasPassed pass prefix several (text_in (given ++ frames block)) (is_ended (given ++ frames block)) × (pass.waiting ≡ None)
PassesBlock prefix several given block offset (Err Memory) pass = HasPassed pass prefix several (text_from (text_in given) (take offset (characters_added given block))) (is_ended given)
PassesBlock prefix several given block offset (Err (At code line)) pass = TellsJoinFault first_order prefix several (text_in (given ++ frames block)) (At code line)

-- what a block does in the second pass of a whole source
abbrev pub MakesBlock : Source → List ℕ → Bool → List ℕ → List ℕ → ℕ → Result (Unit {0}) AsmFault → Pass → List (ℕ × ℕ) → Type 0
MakesBlock whole prefix several given block offset (Ok nothing) pass pairs =
    HasMade whole pass pairs prefix several (text_in (given ++ frames block)) (is_ended (given ++ frames block))
MakesBlock whole prefix several given block offset (Err Memory) pass pairs =
    HasMade whole pass pairs prefix several (text_from (text_in given) (take offset (characters_added given block))) (is_ended given)
MakesBlock whole prefix several given block offset (Err (At code line)) pass pairs =
    TellsJoinFault (words_fault (values whole)) prefix several (text_in (given ++ frames block)) (At code line)

-- words are the fewest blocks that hold the tape of pairs
abbrev pub HoldsTape : List (ℕ × ℕ) → List ℕ → Type 0
HoldsTape pairs words = ArePairs pairs × (words ≡ packed_blocks (tape_of pairs)) × IsBlockPacking (tape_of pairs) words
