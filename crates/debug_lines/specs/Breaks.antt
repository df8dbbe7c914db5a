-- What a `break` says by its words: a spot, then `if` and comparisons, and then `after` and a number; both may be left out.
use Rattle.std.specs.Prelude.{ℕ, if◌then◌else◌, codes, List, [], ◌∷◌, ◌++◌, Option, None, Some, Result, Ok, Err}
use Rattle.debug_lines.specs.Cells.{cell_in, range_in}
use Rattle.debug_lines.specs.Grammar.{missing, one_number}
use Rattle.debug_lines.specs.Numbers.{refusal_at}
use Rattle.debug_lines.specs.Operands.{character_in, class_of, comparison_in, is_quoted}
use Rattle.debug_lines.specs.Parts.{text_of, is_word, if_read}
use Rattle.debug_lines.specs.declared.commands.Command.{Command}
use Rattle.debug_lines.specs.declared.commands.Command.TheVariants.{Break}
use Rattle.debug_lines.specs.declared.comparisons.Comparison.{Comparison}
use Rattle.debug_lines.specs.declared.faults.Refusal.{Refusal}
use Rattle.debug_lines.specs.declared.faults.Refused.TheVariants.{LeftOver}
use Rattle.debug_lines.specs.declared.parts.Part.{Part}
use Rattle.debug_lines.specs.declared.spots.Class.{Class}
use Rattle.debug_lines.specs.declared.spots.Spot.{Spot}
use Rattle.debug_lines.specs.declared.spots.Spot.TheVariants.{At, Write, Print, Outside, Instructions}

-- nothing, or `after` and a number
abbrev pub with_number : List ℕ → Spot → List Comparison → List Part → Result Command Refusal
with_number line spot condition [] = Ok (Break spot condition None)
with_number line spot condition (word ∷ others) =
    if is_word (codes "after") line word
    then if_read (one_number line word.end others) (λ number. Ok (Break spot condition (Some number)))
    else Err (refusal_at LeftOver word)

-- comparisons after those before them, with `and` between, and then a number or none
abbrev pub with_comparisons : List ℕ → Spot → List Comparison → ℕ → List Part → Result Command Refusal
with_comparisons line spot condition before [] = Err (missing before)
with_comparisons line spot condition before (subject ∷ []) = Err (missing subject.end)
with_comparisons line spot condition before (subject ∷ sign ∷ []) = Err (missing sign.end)
with_comparisons line spot condition before (subject ∷ sign ∷ word ∷ []) =
    if_read (comparison_in line subject sign word) (λ it. with_number line spot (condition ++ it ∷ []) [])
with_comparisons line spot condition before (subject ∷ sign ∷ word ∷ joint ∷ others) =
    if_read (comparison_in line subject sign word) (λ it.
    if is_word (codes "and") line joint
    then with_comparisons line spot (condition ++ it ∷ []) joint.end others
    else with_number line spot (condition ++ it ∷ []) (joint ∷ others))

-- nothing, `if` and comparisons, or a number
abbrev pub with_condition : List ℕ → Spot → List Part → Result Command Refusal
with_condition line spot [] = with_number line spot [] []
with_condition line spot (word ∷ others) =
    if is_word (codes "if") line word then with_comparisons line spot [] word.end others else with_number line spot [] (word ∷ others)

-- `write` and a range
abbrev pub break_at_write : List ℕ → ℕ → List Part → Result Command Refusal
break_at_write line before [] = Err (missing before)
break_at_write line before (word ∷ others) = if_read (range_in line word) (λ range. with_condition line (Write range) others)

-- `print`, and a character in quotes or none
abbrev pub break_at_print : List ℕ → List Part → Result Command Refusal
break_at_print line [] = with_condition line (Print None) []
break_at_print line (word ∷ others) =
    if is_quoted line word
    then if_read (character_in line word) (λ character. with_condition line (Print (Some character)) others)
    else with_condition line (Print None) (word ∷ others)

-- a class of instructions, or else a cell
abbrev pub class_or_cell : List ℕ → Part → Option Class → Result Spot Refusal
class_or_cell line word None = if_read (cell_in line word) (λ cell. Ok (At cell))
class_or_cell line word (Some class) = Ok (Instructions class)

-- a spot of one word
abbrev pub spot_in : List ℕ → Part → Result Spot Refusal
spot_in line word = if is_word (codes "outside") line word then Ok Outside else class_or_cell line word (class_of (text_of line word))

abbrev pub break_of : List ℕ → ℕ → List Part → Result Command Refusal
break_of line before [] = Err (missing before)
break_of line before (word ∷ others) =
    if is_word (codes "write") line word then break_at_write line word.end others
    else if is_word (codes "print") line word then break_at_print line others
    else if_read (spot_in line word) (λ spot. with_condition line spot others)
