-- How a place of a source, its line and what a fault is about are shown (this project's profile of PAL III).
use Rattle.std.specs.Prelude.{ℕ, ◌+◌, ◌-◌, ◌/◌, ◌%◌, nat_eq, nat_lt, nat_le, ◌&&◌, ◌||◌, if◌then◌else◌, zero, suc, take, codes, decimal, List, [], ◌∷◌, ◌++◌}
use Rattle.shown_text.specs.Showing.{shown_text}
use Rattle.source_places.specs.Spelling.{spelling}
use Rattle.source_places.specs.declared.places.Place.{Place}
use Rattle.source_places.specs.declared.subjects.About.{About}
use Rattle.source_places.specs.declared.subjects.About.TheVariants.{Nothing, Name, Character}

-- ## A line of a source

-- what stands after so many LFs
abbrev pub after_lines : ℕ → List ℕ → List ℕ
after_lines n [] = []
after_lines zero (b ∷ bytes) = b ∷ bytes
after_lines (suc n) (b ∷ bytes) = if nat_eq b 0o12 then after_lines n bytes else after_lines (suc n) bytes

-- what stands before the first LF
abbrev pub up_to_lf : List ℕ → List ℕ
up_to_lf [] = []
up_to_lf (b ∷ bytes) = if nat_eq b 0o12 then [] else b ∷ up_to_lf bytes

-- printable ASCII and tab are shown as they are, another byte as `?`
abbrev pub shown_byte : ℕ → ℕ
shown_byte b = if (nat_le 0o40 b && nat_lt b 0o177) || nat_eq b 0o11 then b else 0o77

-- bytes as they are shown, each CR left out
abbrev pub visible_bytes : List ℕ → List ℕ
visible_bytes [] = []
visible_bytes (b ∷ bytes) = if nat_eq b 0o15 then visible_bytes bytes else shown_byte b ∷ visible_bytes bytes

-- a line of a source as it is shown, by its number from 1
abbrev pub shown_line : List ℕ → ℕ → List ℕ
shown_line source line = visible_bytes (up_to_lf (after_lines (line - 1) source))

-- blanks below bytes, and tabs below tabs
abbrev pub blanks_below : List ℕ → List ℕ
blanks_below [] = []
blanks_below (b ∷ bytes) = (if nat_eq b 0o11 then 0o11 else 0o40) ∷ blanks_below bytes

-- ## What a fault is about

-- a byte as it is, if it is printable ASCII, and else its three octal digits
abbrev pub character_text : ℕ → List ℕ
character_text b =
    if nat_lt 0o40 b && nat_lt b 0o177 then b ∷ [] else (0o60 + b / 0o100) ∷ (0o60 + b / 8 % 8) ∷ (0o60 + b % 8) ∷ []

-- what a fault is about, after a blank
abbrev pub about_text : About → List ℕ
about_text Nothing = []
about_text (Name name) = codes " " ++ spelling name
about_text (Character b) = codes " " ++ character_text b

-- ## A place

-- `NAME:LINE:COLUMN: `, with the name as it is shown
abbrev pub place_text : List ℕ → Place → List ℕ
place_text name place = shown_text name ++ codes ":" ++ decimal place.line ++ codes ":" ++ decimal place.column ++ codes ": "

-- a line with a caret below a column of it, from 1
abbrev pub with_caret : List ℕ → ℕ → List ℕ
with_caret line column = line ++ codes "\n" ++ blanks_below (take (column - 1) line) ++ codes "^\n"

-- the line of a source that has a place, with a caret below its column
abbrev pub marked_line : List ℕ → Place → List ℕ
marked_line source place = with_caret (shown_line source place.line) place.column
