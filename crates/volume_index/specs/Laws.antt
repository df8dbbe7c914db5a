-- What holds of the lines of an index as JSON objects.
use Rattle.std.specs.Prelude.{◌≡◌, ℕ, ◌+◌, nat_eq, if◌then◌else◌, List, [], ◌∷◌}
use Rattle.volume_index.specs.Json.{json_lines}

-- how many line ends bytes have
abbrev pub line_ends : List ℕ → ℕ
line_ends [] = 0
line_ends (byte ∷ bytes) = (if nat_eq byte 0o12 then 1 else 0) + line_ends bytes

-- each line is one line as an object, whatever stands in its columns
abbrev pub ObjectsAreLines : Type 0
ObjectsAreLines = (lines : List ℕ) → line_ends (json_lines lines) ≡ line_ends lines
