-- Where a statement begins (this project's profile of PAL III).
use Rattle.std.specs.Prelude.{ℕ, if◌then◌else◌, Option, Some, None, unwrap_or, length, List, [], ◌∷◌}
use Rattle.std.specs.Option.{option_or}
use Rattle.pal_lex.specs.Text.{stretch}
use Rattle.pal_lex.specs.Cutting.{is_space}

-- the place of the oldest of live bytes that is no blank
abbrev pub first_solid : List (ℕ × ℕ) → Option ℕ
first_solid [] = None
first_solid (live ∷ older) = option_or (first_solid older) (if is_space live.0 then None else Some live.1)

-- where the statement begins that a byte after a text ends: at that byte, if the statement is empty
abbrev pub start_of : List ℕ → ℕ
start_of text = unwrap_or (first_solid (stretch text)) (length text)
