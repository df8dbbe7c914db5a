-- The lines of a volume's files and of its free blocks (this project's profile).
use Rattle.std.specs.Prelude.{ℕ, codes, decimal, List, [], ◌∷◌, ◌++◌}
use Rattle.std.specs.List.{flat_map}
use Rattle.refusals.specs.Shown.{name_text}

-- the line of a file with its blocks
abbrev pub file_line : ℕ × ℕ → List ℕ
file_line (name, blocks) = name_text name ++ 0o40 ∷ decimal blocks ++ 0o12 ∷ []

-- the lines of some files
abbrev pub file_lines : List (ℕ × ℕ) → List ℕ
file_lines files = flat_map file_line files

-- the line of the free blocks
abbrev pub free_line : ℕ → List ℕ
free_line blocks = codes "FREE " ++ decimal blocks ++ 0o12 ∷ []
