-- The symbols of sources in a listing (PAL III Symbolic Assembler manual, and this project's profile of it).
use Rattle.std.specs.Prelude.{ℕ, ◌%◌, is_some, if◌then◌else◌, codes, List, [], ◌∷◌, ◌++◌}
use Rattle.word12.specs.Octal.{octal4}
use Rattle.pal_sym.specs.Permanent.{permanent}
use Rattle.source_places.specs.Spelling.{name_text}
use Rattle.host_sources.specs.Symbols.{Entries}

-- a name with its value in four octal digits
abbrev pub symbol_text : ℕ × ℕ → List ℕ
symbol_text entry = name_text entry.0 ++ codes "  " ++ octal4 (entry.1 % 0o10000)

-- a symbol on a line, if it is no permanent one
abbrev pub entry_text : ℕ × ℕ → List ℕ
entry_text entry = if is_some (permanent entry.0) then [] else symbol_text entry ++ codes "\n"

abbrev pub table_text : Entries → List ℕ
table_text [] = []
table_text (entry ∷ entries) = entry_text entry ++ table_text entries
