-- The lines of a source, by the words that it gives cells (PAL III Symbolic Assembler manual, and this project's profile).
use Rattle.std.specs.Prelude.{ℕ, ◌/◌, ◌%◌, nat_eq, Bool, if◌then◌else◌, Option, List, [], ◌∷◌, ◌++◌, codes}
use Rattle.word12.specs.declared.sizes.TheConstants.{FIELD}
use Rattle.word12.specs.Octal.{octal_digit, octal4, octal5}
use Rattle.bin_tape.specs.Writing.{next_field, is_next, newest_cell}
use Rattle.source_notes.specs.Notes.{note_lines}
use Rattle.tape_source.specs.Looks.{Look, is_tagged}
use Rattle.tape_source.specs.Statements.{statement}

-- CR and LF
abbrev pub line_end : List ℕ
line_end = 0o15 ∷ 0o12 ∷ []

-- `FIELD` with the number of the cell's field
abbrev pub field_line : ℕ → List ℕ
field_line cell = codes "FIELD " ++ octal_digit (cell / FIELD) ∷ line_end

-- `*` with the cell's address in octal
abbrev pub origin_line : ℕ → List ℕ
origin_line cell = 0o52 ∷ octal4 (cell % FIELD) ++ line_end

-- a `/` with the cell, its field first, and the word in octal
abbrev pub comment : ℕ → ℕ → List ℕ
comment cell word = 0o57 ∷ octal5 cell ++ 0o40 ∷ octal4 word

-- pieces, the first after this byte and the others after a blank
abbrev pub with_lead : ℕ → List (List ℕ) → List ℕ
with_lead byte [] = []
with_lead byte (piece ∷ others) = byte ∷ piece ++ with_lead 0o40 others

-- a cell's tag with a comma, where it has one
abbrev pub tag_part : (ℕ → List ℕ) → (ℕ → Bool) → ℕ → List ℕ
tag_part name tagged cell = if tagged cell then name cell ++ 0o54 ∷ [] else []

-- the cell's tag, the statement of the word after a tab, and after another tab the comment
abbrev pub word_line : Look → (ℕ → Bool) → ℕ → ℕ → List ℕ
word_line look tagged cell word =
    tag_part look.name tagged cell ++ with_lead 9 (statement look tagged cell word) ++ 0o11 ∷ comment cell word ++ look.remark cell ++ line_end

-- The lines of a cell's word after a word for the cell before. They are the field where it changes, an origin where the
-- cell isn't the next, the comments above it, the word, and an empty line where one stands after it.
abbrev pub cell_lines : Look → (ℕ → Bool) → Option ℕ → ℕ → ℕ → List ℕ
cell_lines look tagged before cell word =
    (if nat_eq (cell / FIELD) (next_field before) then [] else field_line cell) ++ (if is_next before cell then [] else origin_line cell)
    ++ note_lines (look.above cell) ++ word_line look tagged cell word ++ (if look.has_gap cell then line_end else [])

-- the lines of cells with their words, the newest first, where these cells are tagged
abbrev pub lines_of : Look → (ℕ → Bool) → List (ℕ × ℕ) → List ℕ
lines_of look tagged [] = []
lines_of look tagged (pair ∷ older) = lines_of look tagged older ++ cell_lines look tagged (newest_cell older) pair.0 pair.1

-- The source of cells with their words, the newest first. It is their lines, with a tag for each cell that the instructions refer to
-- or that has a name of its own, and `$`.
abbrev pub source_with : Look → List (ℕ × ℕ) → List ℕ
source_with look pairs = lines_of look (is_tagged look pairs) pairs ++ 0o44 ∷ line_end
