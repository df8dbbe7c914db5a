-- Where a byte of sources stands (this project's profile of PAL8).
use Rattle.std.specs.Prelude.{ℕ, ◌+◌, nat_eq, if◌then◌else◌, take, List, [], ◌∷◌}
use Rattle.pal_lex.specs.Text.{text_of}
use Rattle.std.specs.Borrow.{Bor}
use Rattle.source_places.specs.Places.{bytes_of, next_line}
use Rattle.source_places.specs.declared.places.Place.{Place}

-- the column after one more byte: LF ends a line, and CR counts for nothing
abbrev pub column_with : ℕ → ℕ → ℕ
column_with b column = if nat_eq b 0o12 then 1 else (if nat_eq b 0o15 then column else column + 1)

-- the column after a text with its newest byte first, from 1
abbrev pub column_after : List ℕ → ℕ
column_after [] = 1
column_after (b ∷ older) = column_with b (column_after older)

-- the line and the column of a byte of a source with this number, by the byte's number from 0
abbrev pub place_of : ℕ → List ℕ → ℕ → Place
place_of number source at =
    record { source = number; line = next_line (text_of (take at source)); column = column_after (text_of (take at source)) }

-- a place of the join of sources by its source and the byte of that
abbrev pub place_by : List (Bor (List ℕ)) → ℕ × ℕ → Place
place_by sources at = place_of at.0 (bytes_of sources at.0) at.1
