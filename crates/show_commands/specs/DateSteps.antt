-- What steps of the code that lists dates do. No contract of a public function cites these.
use Rattle.std.specs.Prelude.{ℕ, ◌+◌, if◌then◌else◌, List, [], ◌∷◌, ◌++◌}
use Rattle.os8_dir.specs.declared.entries.DirEntry.{DirEntry}
use Rattle.os8_dir.specs.declared.entries.DirEntry.TheVariants.{File, Empty}
use Rattle.os8_dir.specs.Entries.{size_of}
use Rattle.show_commands.specs.Dates.{dated_line, is_listed}

-- the line of an entry that begins at a block; an empty has none
abbrev pub line_of_entry : ℕ → ℕ → List (List ℕ) → ℕ → DirEntry → List ℕ
line_of_entry last info words place (File name given size) = if is_listed words name then dated_line last info (record { name = name; info = given; place = place; size = size }) else []
line_of_entry last info words place (Empty size) = []

-- the lines of entries, the first of which begins at a block
abbrev pub lines_of_entries : ℕ → ℕ → List (List ℕ) → ℕ → List DirEntry → List ℕ
lines_of_entries last info words place [] = []
lines_of_entries last info words place (entry ∷ entries) = line_of_entry last info words place entry ++ lines_of_entries last info words (place + size_of entry) entries
