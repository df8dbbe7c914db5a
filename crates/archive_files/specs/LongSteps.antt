-- What steps of the code that writes a long list do. No contract of a public function cites these.
use Rattle.std.specs.Prelude.{ℕ, ◌+◌, List, [], ◌∷◌, ◌++◌}
use Rattle.os8_dir.specs.declared.entries.DirEntry.{DirEntry}
use Rattle.os8_dir.specs.declared.entries.DirEntry.TheVariants.{File, Empty}
use Rattle.os8_dir.specs.Entries.{size_of}
use Rattle.archive_files.specs.LongListing.{long_line}

-- the line of an entry that begins at a block; an empty has none
abbrev pub line_of_entry : ℕ → ℕ → DirEntry → List ℕ
line_of_entry info place (File name words size) = long_line info (record { name = name; info = words; place = place; size = size })
line_of_entry info place (Empty size) = []

-- the lines of entries, the first of which begins at a block
abbrev pub lines_of_entries : ℕ → ℕ → List DirEntry → List ℕ
lines_of_entries info place [] = []
lines_of_entries info place (entry ∷ entries) = line_of_entry info place entry ++ lines_of_entries info (place + size_of entry) entries
