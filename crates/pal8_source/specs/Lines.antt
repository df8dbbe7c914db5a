-- The lines of a PAL8 source, by the words of a tape (PAL8, in this project's profile).
use Rattle.std.specs.Prelude.{ℕ, zero, suc, ◌+◌, ◌-◌, ◌*◌, ◌/◌, ◌%◌, nat_eq, nat_lt, Bool, ◌&&◌, not, if◌then◌else◌, Option, Some, None, is_some, List, [], ◌∷◌, ◌++◌, codes}
use Rattle.word12.specs.declared.sizes.TheConstants.{CORE, FIELD, PAGE}
use Rattle.word12.specs.Octal.{octal4}
use Rattle.bin_tape.specs.Writing.{next_field, is_next}
use Rattle.flow8.specs.Exits.{referred_cell}
use Rattle.source_notes.specs.Notes.{note_lines}
use Rattle.tape_source.specs.References.{is_reference, operation_name}
use Rattle.tape_source.specs.Statements.{datum, statement}
use Rattle.tape_source.specs.Lines.{comment, field_line, line_end, origin_line, tag_part, with_lead}
use Rattle.pal8_source.specs.Sheets.{Sheet}
use Rattle.pal8_source.specs.Texts.{characters, delimiters, first_absent, text_size}

-- ## Origins

-- the location after a word for the cell before, in the field of a cell: 0200 where that begins
abbrev pub location : Option ℕ → ℕ → ℕ
location None cell = 0o200
location (Some before) cell = if nat_eq (before / FIELD) (cell / FIELD) then before % FIELD + 1 else 0o200

-- the first place of a page at a location or after it
abbrev pub next_page : ℕ → ℕ
next_page location = PAGE * ((location + (PAGE - 1)) / PAGE)

-- `PAGE` where that says the same, else an origin
abbrev pub place_line : Option ℕ → ℕ → List ℕ
place_line before cell = if nat_eq (next_page (location before cell)) (cell % FIELD) then codes "PAGE" ++ line_end else origin_line cell

-- the field where it changes, and where words go, where the cell isn't the next
abbrev pub heading : Option ℕ → ℕ → List ℕ
heading before cell =
    (if nat_eq (cell / FIELD) (next_field before) then [] else field_line cell) ++ (if is_next before cell then [] else place_line before cell)

-- ## Literals

-- `[` for page zero, else `(`
abbrev pub opening : ℕ → ℕ
opening cell = if nat_lt (cell % FIELD) PAGE then 0o133 else 0o50

-- the value of a literal: its number, or, where a start is given, what stands for it as a datum
abbrev pub value : Sheet → ℕ → Option ℕ → List (List ℕ)
value s cell None = []
value s cell (Some word) = if s.has_starts then datum s.look.name s.is_tagged cell word else octal4 word ∷ []

-- a memory reference to a cell of a pool: the operation, `I` where the word is indirect, and the literal
abbrev pub literal_part : Sheet → ℕ → ℕ → List ℕ
literal_part s named word =
    0o11 ∷ operation_name (word / 0o1000) ++ with_lead 0o40 (if nat_eq (word / 0o400 % 2) 1 then codes "I" ∷ [] else []) ++ 0o40 ∷ with_lead (opening named) (value s named (s.words named))

-- the word in a cell is an instruction that refers to a cell of a pool
abbrev pub has_literal : Sheet → ℕ → ℕ → Bool
has_literal s cell word = s.look.is_code cell && (is_reference (cell % FIELD) word && s.is_pooled (referred_cell cell word))

-- the statement of a word, after a tab
abbrev pub statement_part : Sheet → ℕ → ℕ → List ℕ
statement_part s cell word =
    if has_literal s cell word then literal_part s (referred_cell cell word) word else with_lead 0o11 (statement s.look s.is_tagged cell word)

-- ## Lines

-- the cell's tag, the statement, and after a tab the comment
abbrev pub word_line : Sheet → ℕ → ℕ → List ℕ
word_line s cell word =
    tag_part s.look.name s.is_tagged cell ++ statement_part s cell word ++ 0o11 ∷ comment cell word ++ s.look.remark cell ++ line_end

-- the comments above it, the word, and an empty line where one stands after it
abbrev pub word_lines : Sheet → ℕ → ℕ → List ℕ
word_lines s cell word = note_lines (s.look.above cell) ++ word_line s cell word ++ (if s.look.has_gap cell then line_end else [])

-- a string between two of a character
abbrev pub with_marks : Option ℕ → List ℕ → List ℕ
with_marks None text = []
with_marks (Some mark) text = mark ∷ text ++ mark ∷ []

-- so many words as one TEXT, with the first of them in the comment
abbrev pub text_line : Sheet → ℕ → ℕ → ℕ → List ℕ
text_line s cell word count =
    0o11 ∷ codes "TEXT " ++ with_marks (first_absent delimiters (characters s cell count)) (characters s cell count) ++ 0o11 ∷ comment cell word ++ line_end

abbrev pub lines_with : Sheet → Option ℕ → ℕ → ℕ → ℕ → List ℕ
lines_with s before cell word zero = heading before cell ++ word_lines s cell word
lines_with s before cell word (suc count) = heading before cell ++ text_line s cell word (suc count)

-- a cell has a word that stands in the source: it is no pool's
abbrev pub is_written : Sheet → ℕ → Bool
is_written s cell = is_some (s.words cell) && not (s.is_pooled cell)

-- the lines of a cell, if it has a word
abbrev pub cell_lines : Sheet → Option ℕ → ℕ → Option ℕ → List ℕ
cell_lines s before cell None = []
cell_lines s before cell (Some word) = if s.is_pooled cell then [] else lines_with s before cell word (text_size s cell)

-- the newest cell below a number whose word stands in the source
abbrev pub newest_below : Sheet → ℕ → Option ℕ
newest_below s zero = None
newest_below s (suc cell) = if is_written s cell then Some cell else newest_below s cell

-- how many cells stand in a TEXT after one of its own, or after one that begins it with so many
abbrev pub rest_after : ℕ → ℕ → ℕ
rest_after zero size = size - 1
rest_after (suc left) size = left

-- how many cells from a number on stand in the TEXT of a cell below it
abbrev pub rest_of_text : Sheet → ℕ → ℕ
rest_of_text s zero = 0
rest_of_text s (suc cell) = rest_after (rest_of_text s cell) (text_size s cell)

abbrev pub lines_unless : ℕ → List ℕ → List ℕ
lines_unless zero lines = lines
lines_unless (suc left) lines = []

-- the lines of the cells below a number
unfoldable pub lines_below : Sheet → ℕ → List ℕ
lines_below s zero = []
lines_below s (suc cell) = lines_below s cell ++ lines_unless (rest_of_text s cell) (cell_lines s (newest_below s cell) cell (s.words cell))

-- the lines of all cells, and `$`
abbrev pub source_of : Sheet → List ℕ
source_of s = lines_below s CORE ++ 0o44 ∷ line_end
