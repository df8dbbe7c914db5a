-- The lines that say what was done to an image file (this project's profile).
use Rattle.std.specs.Prelude.{ℕ, nat_eq, if◌then◌else◌, ◌-◌, ◌/◌, ◌%◌, codes, decimal, min, take, List, [], ◌∷◌, ◌++◌, length}
use Rattle.shown_text.specs.Showing.{shown_text}
use Rattle.word12.specs.Octal.{octal4}
use Rattle.image_kind.specs.declared.lines.TheConstants.{MOST_LINES}
use Rattle.image_kind.specs.declared.mending.WideWord.{WideWord}
use Rattle.image_kind.specs.declared.mending.MendedFile.{MendedFile}

-- where a word of the file of this name is
abbrev pub place_text : List ℕ → ℕ → ℕ → List ℕ
place_text name block word = codes "note: " ++ name ++ codes ": block " ++ decimal block ++ codes ", word " ++ decimal word ++ codes " is "

-- its sixteen bits in octal, the top one, the next three and the low twelve, and what is read in their place
abbrev pub bits_text : ℕ → ℕ → ℕ → List ℕ
bits_text top next low = decimal top ++ decimal next ++ octal4 low ++ codes ", read as " ++ octal4 low ++ codes "\n"

-- the line of a word
abbrev pub line_of : List ℕ → ℕ → ℕ → ℕ → ℕ → ℕ → List ℕ
line_of name block word top next low = place_text name block word ++ bits_text top next low

abbrev pub word_line : List ℕ → WideWord → List ℕ
word_line name it = line_of name it.block it.word (it.bits / 0o100000) (it.bits / 0o10000 % 8) (it.bits % 0o10000)

abbrev pub word_lines : List ℕ → List WideWord → List ℕ
word_lines name [] = []
word_lines name (it ∷ words) = word_line name it ++ word_lines name words

-- those of the first words
abbrev pub first_lines : List ℕ → List WideWord → List ℕ
first_lines name words = word_lines name (take (min (length words) MOST_LINES) words)

-- a line with a number, unless it is 0
abbrev pub count_line : List ℕ → List ℕ → ℕ → List ℕ
count_line name what number = if nat_eq number 0 then [] else codes "note: " ++ name ++ what ++ decimal number ++ codes "\n"

-- the count of further words, and of the bytes that were added or cut
abbrev pub count_lines : List ℕ → MendedFile → List ℕ
count_lines name it =
    count_line name (codes ": further words of more than 12 bits, read without the top ones: ") (length it.wide.items - MOST_LINES)
    ++ count_line name (codes ": bytes of zeros added at the end: ") it.zeros
    ++ count_line name (codes ": bytes cut from the end: ") it.cut

abbrev pub lines_by : List ℕ → MendedFile → List ℕ
lines_by name it = first_lines name it.wide.items ++ count_lines name it

-- a line for each of the first words, and then the counts, with the name as it is shown
abbrev pub mended_lines : List ℕ → MendedFile → List ℕ
mended_lines name it = lines_by (shown_text name) it
