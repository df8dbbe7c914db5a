-- Which fault of several sources is known at which turn. Each turn reads a block, source after source, and all of them
-- twice.
use Rattle.std.specs.Prelude.{◌≡◌, ℕ, ◌+◌, ◌-◌, ◌<◌, nat_lt, if◌then◌else◌, Option, Some, None, List, [], ◌∷◌}
use Rattle.char_pack.specs.Texts.{text}
use Rattle.pal_lex.specs.Text.{text_of}
use Rattle.pal_lex.specs.Statements.{statements}
use Rattle.pal_lex.specs.Joins.{before_pause}
use Rattle.pal_asm.specs.Places.{Source, values}
use Rattle.pal_asm.specs.Faults.{first_of, first_order, no_end, words_fault, no_word}
use Rattle.pal_faults.specs.declared.assembling.AsmFault.{AsmFault}
use Rattle.pal_blocks.specs.Blocks.{blocks_in, blocks_among, first_among}
use Rattle.pal_blocks.specs.Sources.{newest_first}

-- the statements that end within so many first blocks
abbrev pub statements_in : ℕ → List (List ℕ) → Source
statements_in count sources = statements (newest_first (first_among count sources))

-- what comes after a PAUSE, if there is one
abbrev pub if_paused : Option (List ℕ) → ℕ → ℕ
if_paused None following = 0
if_paused (Some prefix) following = following

-- how many blocks there are up to the end of the source that the join ends in, with its `$` or without
abbrev pub joined_blocks : List (List ℕ) → ℕ
joined_blocks [] = 0
joined_blocks (words ∷ []) = blocks_in words
joined_blocks (words ∷ next ∷ others) = blocks_in words + if_paused (before_pause (text_of (text words))) (joined_blocks (next ∷ others))

-- a fault that is known from a turn on
abbrev pub from_turn : ℕ → ℕ → Option AsmFault → Option AsmFault
from_turn least turn fault = if nat_lt turn least then None else fault

-- The first fault that is known when all blocks were read once and then so many of them again, other than those known
-- before. It is one of a word in the blocks that were read again, or that there is no word.
abbrev pub known_again : ℕ → List (List ℕ) → Option AsmFault
known_again again sources =
    first_of (words_fault (values (statements (newest_first sources))) (statements_in again sources)) (no_word (statements (newest_first sources)))

-- The first fault that is known at a turn. It is one of the statements that were read, or a missing `$`, once the source
-- was read at whose end it is missing. From the last block on it may be one of those that take the whole source.
abbrev pub fault_at_turn : ℕ → List (List ℕ) → Option AsmFault
fault_at_turn turn sources =
    first_of (first_order (statements_in turn sources))
    (first_of (from_turn (joined_blocks sources) turn (no_end (newest_first sources)))
    (from_turn (blocks_among sources) turn (known_again (turn - blocks_among sources) sources)))

-- a fault is known at this turn, and none at a turn before
pub record IsFirstKnown (sources : List (List ℕ)) (turn : ℕ) (fault : AsmFault) : Type 0 where
  pub now : fault_at_turn turn sources ≡ Some fault
  pub before : (earlier : ℕ) → earlier < turn → fault_at_turn earlier sources ≡ None
