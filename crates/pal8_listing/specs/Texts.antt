-- What stands after the lines of a listing (PAL8, the assembler of OS/8, in this project's profile).
use Rattle.std.specs.Prelude.{ℕ, codes, List, [], ◌∷◌, ◌++◌}
use Rattle.source_listing.specs.Rows as pal3
use Rattle.source_listing.specs.Symbols.{symbol_text}

-- names, each on a line with its value
abbrev pub names_text : List (ℕ × ℕ) → List ℕ
names_text [] = []
names_text (entry ∷ entries) = symbol_text entry ++ codes "\n" ++ names_text entries

-- after an empty line, the cells of pools with their values, each on a line; nothing where there is none
abbrev pub pool_text : List (ℕ × ℕ) → List ℕ
pool_text [] = []
pool_text (pair ∷ pool) = codes "\n" ++ pal3.below_text (pair ∷ pool)
