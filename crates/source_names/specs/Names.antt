-- The names that a file gives cells (PAL III Symbolic Assembler manual for what a name is, and this project's profile).
use Rattle.std.specs.Prelude.{◌≡◌, ℕ, ◌+◌, ◌<◌, nat_eq, nat_le, Bool, true, false, ◌&&◌, ◌||◌, if◌then◌else◌, Option, Some, None, is_some, Result, Ok, Err, List, [], ◌∷◌, ◌++◌, length, take, drop, slice_index, slice_index_or}
use Rattle.word12.specs.declared.sizes.TheConstants.{CORE}
use Rattle.word12.specs.Octal.{octal_of}
use Rattle.pal_lex.specs.Language.{is_reserved}
use Rattle.pal_sym.specs.Names.{name_number, name_of}
use Rattle.pal_sym.specs.Permanent.{permanent}
use Rattle.pal_faults.specs.declared.names.LineRefusal.{LineRefusal}
use Rattle.pal_faults.specs.declared.names.LineRefusal.TheVariants.{BadLine, NoName, Permanent, Tag, Twice, NoCell}
use Rattle.source_names.specs.declared.faults.NamesFault.{NamesFault}
use Rattle.source_names.specs.declared.faults.NamesFault.TheVariants.{At, Memory}

-- ## Lines: LF ends one, and a CR before it is no part of the line

abbrev pub without_return : List ℕ → List ℕ
without_return [] = []
without_return (byte ∷ []) = if nat_eq byte 0o15 then [] else byte ∷ []
without_return (byte ∷ next ∷ others) = byte ∷ without_return (next ∷ others)

-- the line that no LF ends, if it has a byte
abbrev pub last_line : List ℕ → List (List ℕ)
last_line [] = []
last_line (byte ∷ bytes) = without_return (byte ∷ bytes) ∷ []

-- the lines of a text after the bytes of the line in which it begins
abbrev pub lines_from : List ℕ → List ℕ → List (List ℕ)
lines_from line [] = last_line line
lines_from line (byte ∷ bytes) = if nat_eq byte 0o12 then without_return line ∷ lines_from [] bytes else lines_from (line ++ byte ∷ []) bytes

-- an empty line, and one that begins with `/`, say nothing
abbrev pub says_nothing : List ℕ → Bool
says_nothing [] = true
says_nothing (byte ∷ others) = nat_eq byte 0o57

-- a blank or a tab
abbrev pub is_blank : ℕ → Bool
is_blank byte = nat_eq byte 0o40 || nat_eq byte 0o11

abbrev pub begins_blank : List ℕ → Bool
begins_blank [] = false
begins_blank (byte ∷ others) = is_blank byte

abbrev pub without_blanks : List ℕ → List ℕ
without_blanks [] = []
without_blanks (byte ∷ others) = if is_blank byte then without_blanks others else byte ∷ others

-- a line says a cell, five octal digits and a blank, and after further blanks its name
abbrev pub cell_in : List ℕ → Option ℕ
cell_in line = if begins_blank (drop 5 line) then octal_of 5 (take 5 line) else None

abbrev pub name_in : List ℕ → List ℕ
name_in line = without_blanks (drop 5 line)

-- ## What a name is, and what it is not

-- the number of a name: a letter, and letters and digits, six at most
abbrev pub short_name : List ℕ → Option ℕ
short_name name = if nat_le (length name) 6 then name_of name else None

-- a permanent symbol, or a word of the language
abbrev pub is_taken : ℕ → Bool
is_taken number = is_some (permanent number) || is_reserved number

-- the form of the tags that listings make: `A`, and five octal digits
abbrev pub has_tag_form : List ℕ → Bool
has_tag_form [] = false
has_tag_form (first ∷ others) = nat_eq first 0o101 && is_some (octal_of 5 others)

-- ## What lines give

pub record Entry : Type 0 where
  pub cell : ℕ
  pub name : List ℕ

-- a name, or a cell, was given
abbrev pub names_number : List Entry → ℕ → Bool
names_number [] number = false
names_number (entry ∷ older) number = nat_eq (name_number entry.name) number || names_number older number

abbrev pub names_cell : List Entry → ℕ → Bool
names_cell [] cell = false
names_cell (entry ∷ older) cell = nat_eq entry.cell cell || names_cell older cell

-- why a name of this number isn't given to a cell with this word or none, where the name or the cell was given before, or wasn't
abbrev pub why_taken : Option ℕ → Bool → List ℕ → ℕ → Option LineRefusal
why_taken word given name number =
    if is_taken number then Some Permanent
    else (if has_tag_form name then Some Tag else (if given then Some Twice else (if is_some word then None else Some NoCell)))

-- why a line with this cell and this name is refused after lines that gave these
abbrev pub why_refused : (ℕ → Option ℕ) → List Entry → Option ℕ → List ℕ → Option ℕ → Option LineRefusal
why_refused words entries None name number = Some BadLine
why_refused words entries (Some cell) name None = Some NoName
why_refused words entries (Some cell) name (Some number) =
    why_taken (words cell) (names_number entries number || names_cell entries cell) name number

-- how many lines were read, and what they gave, the newest first
pub record Reading : Type 0 where
  pub lines : ℕ
  pub entries : List Entry

-- a line gives its cell its name, or is refused
abbrev pub with_entry : Reading → Option ℕ → List ℕ → Option LineRefusal → Result Reading NamesFault
with_entry read None name None = Ok (record read { lines = read.lines + 1 })
with_entry read (Some cell) name None = Ok (record { lines = read.lines + 1; entries = record { cell = cell; name = name } ∷ read.entries })
with_entry read cell name (Some why) = Err (At (read.lines + 1) why)

-- what one more line gives
abbrev pub with_line : (ℕ → Option ℕ) → Reading → List ℕ → Result Reading NamesFault
with_line words read line =
    if says_nothing line then Ok (record read { lines = read.lines + 1 })
    else with_entry read (cell_in line) (name_in line)
    (why_refused words read.entries (cell_in line) (name_in line) (short_name (name_in line)))

-- and further lines, of which the first that is refused is reported
abbrev pub with_lines : (ℕ → Option ℕ) → Result Reading NamesFault → List (List ℕ) → Result Reading NamesFault
with_lines words read [] = read
with_lines words (Err fault) (line ∷ lines) = Err fault
with_lines words (Ok read) (line ∷ lines) = with_lines words (with_line words read line) lines

-- what a text gives
abbrev pub read_of : (ℕ → Option ℕ) → List ℕ → Result Reading NamesFault
read_of words text = with_lines words (Ok (record { lines = 0; entries = [] })) (lines_from [] text)

-- ## The answer

-- a name in six places, with 0 after it
abbrev pub six_places : List ℕ → List ℕ
six_places name =
    slice_index name 0 ∷ slice_index name 1 ∷ slice_index name 2 ∷ slice_index name 3 ∷ slice_index name 4 ∷ slice_index name 5 ∷ []

-- the name of a cell, if it was given one
abbrev pub name_at : List Entry → ℕ → Option (List ℕ)
name_at [] cell = None
name_at (entry ∷ older) cell = if nat_eq entry.cell cell then Some (six_places entry.name) else name_at older cell

-- the names of a text, by their cells
pub record AreNames (words : ℕ → Option ℕ) (text : List ℕ) (table : List (Option (List ℕ))) : Type 0 where
  pub read : Reading
  pub is : read_of words text ≡ Ok read
  pub names : (cell : ℕ) → cell < CORE → slice_index_or table cell None ≡ name_at read.entries cell

-- why a text gives none
abbrev pub IsFault : (ℕ → Option ℕ) → List ℕ → NamesFault → Type 0
IsFault words text (At line why) = read_of words text ≡ Err (At line why)
IsFault words text Memory = Unit {0}
