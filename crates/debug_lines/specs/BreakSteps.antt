-- The steps of reading a condition, for private clauses.
use Rattle.std.specs.Prelude.{ℕ, if◌then◌else◌, codes, List, [], ◌∷◌, Option, None, Some}
use Rattle.debug_lines.specs.Parts.{is_word}
use Rattle.debug_lines.specs.declared.parts.Part.{Part}

-- where an `and` ends with which words begin
abbrev pub joint_end : List ℕ → List Part → Option ℕ
joint_end line [] = None
joint_end line (word ∷ others) = if is_word (codes "and") line word then Some word.end else None

-- where the next word of a comparison is missed
abbrev pub place_missed : ℕ → List Part → ℕ
place_missed before [] = before
place_missed before (subject ∷ []) = subject.end
place_missed before (subject ∷ sign ∷ words) = sign.end
