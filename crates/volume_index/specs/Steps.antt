-- What steps of the code that finds equal files do. No contract of a public function cites these.
use Rattle.std.specs.Prelude.{ℕ, nat_eq, ◌||◌, Bool, false, Option, None, Some, List, [], ◌∷◌, ◌++◌}
use Rattle.std.specs.Global.{Vec}
use Rattle.volume_index.specs.Digests.{digest_of}
use Rattle.volume_index.specs.TextLines.{lines_from}
use Rattle.volume_index.specs.Same.{line_if}

-- the lines from a byte on, after the first part of a line
abbrev pub line_after : List ℕ → ℕ → List ℕ → List (List ℕ)
line_after line byte rest = lines_from line (byte ∷ rest)

abbrev pub is_before : Option ℕ → ℕ → Bool
is_before None digest = false
is_before (Some before) digest = nat_eq before digest

abbrev pub is_next : List (Vec ℕ) → ℕ → Bool
is_next [] digest = false
is_next (line ∷ lines) digest = nat_eq (digest_of line.items) digest

-- lines after one of this digest: those whose digest the line before or after has
abbrev pub near_text : Option ℕ → List (Vec ℕ) → List ℕ
near_text before [] = []
near_text before (line ∷ lines) =
    line_if (is_before before (digest_of line.items) || is_next lines (digest_of line.items)) line.items ++ near_text (Some (digest_of line.items)) lines
