-- The lines of an index as JSON objects (RFC 8259; the members are this project's profile).
use Rattle.std.specs.Prelude.{ℕ, ◌+◌, nat_eq, max, min, ◌||◌, if◌then◌else◌, codes, List, [], ◌∷◌, ◌++◌}

-- What stands between two columns of a line, by the number of the first, counted from 1: those of blocks are numbers, the others texts.
abbrev pub separator : ℕ → List ℕ
separator column =
    if nat_eq column 1 then codes "\",\"volume\":\""
    else if nat_eq column 2 then codes "\",\"first\":"
    else if nat_eq column 3 then codes ",\"length\":"
    else if nat_eq column 4 then codes ",\"name\":\""
    else if nat_eq column 5 then codes "\",\"date\":\""
    else if nat_eq column 6 then codes "\",\"kind\":\""
    else codes "\",\"digest\":\""

-- what stands before the first column
abbrev pub opening : ℕ → List ℕ
opening column = if nat_eq column 0 then codes "{\"image\":\"" else []

-- a quotation mark and a backslash have a backslash before them
abbrev pub with_escape : ℕ → List ℕ
with_escape byte = if nat_eq byte 0o42 || nat_eq byte 0o134 then 0o134 ∷ byte ∷ [] else byte ∷ []

-- a tab ends a column, and an LF the object and its line
abbrev pub with_column_ends : ℕ → ℕ → List ℕ
with_column_ends column byte = if nat_eq byte 0o11 then separator column else if nat_eq byte 0o12 then codes "\"}\n" else with_escape byte

-- the number of the column after a byte, 0 before a line
abbrev pub next_column : ℕ → ℕ → ℕ
next_column column byte = if nat_eq byte 0o12 then 0 else if nat_eq byte 0o11 then min (column + 1) 8 else max column 1

-- lines, the first of which goes on in a column
abbrev pub json_from : ℕ → List ℕ → List ℕ
json_from column [] = []
json_from column (byte ∷ bytes) = (opening column ++ with_column_ends column byte) ++ json_from (next_column column byte) bytes

-- each line as an object on a line of its own
abbrev pub json_lines : List ℕ → List ℕ
json_lines lines = json_from 0 lines
