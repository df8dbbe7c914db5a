-- The lines of a listing (PAL8, the assembler of OS/8, in this project's profile).
use Rattle.std.specs.Prelude.{ℕ, ◌+◌, ◌-◌, nat_eq, Bool, true, false, ◌&&◌, if◌then◌else◌, take, drop, codes, Option, Some, None, List, [], ◌∷◌, ◌++◌}
use Rattle.std.specs.Borrow.{Bor}
use Rattle.pal_lex.specs.Text.{limit, text_of}
use Rattle.source_places.specs.Places.{next_line}
use Rattle.source_listing.specs.Rows.{margin, word_text}
use Rattle.pal8_asm.specs.Marks.{has_indirect_bit}
use Rattle.pal8_asm.specs.declared.marks.Mark.{Mark}
use Rattle.pal8_listing.specs.declared.words.ListedWord.{ListedWord}

-- ## Words

abbrev pub listed_word : ℕ × ℕ → Mark → ListedWord
listed_word pair mark = record { cell = pair.0; word = pair.1; line = mark.line; is_link = mark.is_direct && has_indirect_bit pair.1 }

-- the words of a source, each with its mark: a memory reference without `I` whose word has the bit of `I` is made through a link
abbrev pub listed_words : List (ℕ × ℕ) → List Mark → List ListedWord
listed_words [] marks = []
listed_words (pair ∷ pairs) [] = []
listed_words (pair ∷ pairs) (mark ∷ marks) = listed_word pair mark ∷ listed_words pairs marks

-- the first of these words whose statements begin in a line
abbrev pub words_here : ℕ → List ListedWord → List ListedWord
words_here line [] = []
words_here line (w ∷ others) = if nat_eq w.line line then w ∷ words_here line others else []

-- the words after them
abbrev pub words_after : ℕ → List ListedWord → List ListedWord
words_after line [] = []
words_after line (w ∷ others) = if nat_eq w.line line then words_after line others else w ∷ others

-- ## Lines

-- A line of a source. If it is read, it has a number in the join of the sources. The last one isn't ended.
pub record Line : Type 0 where
  pub text : List ℕ
  pub number : Option ℕ
  pub is_ended : Bool

-- so many lines of a source are read, or all of them
abbrev pub number_by : Option ℕ → ℕ → Option ℕ
number_by None number = Some number
number_by (Some left) number = if nat_eq left 0 then None else Some number

abbrev pub one_less : Option ℕ → Option ℕ
one_less None = None
one_less (Some left) = Some (left - 1)

-- The lines of a source after the beginning of one, with their numbers from this one on, of which so many are read. LF ends a line, and CR is left out.
abbrev pub numbered_lines : List ℕ → ℕ → Option ℕ → List ℕ → List Line
numbered_lines line number left [] = record { text = line; number = number_by left number; is_ended = false } ∷ []
numbered_lines line number left (b ∷ source) =
    if nat_eq b 0o15 then numbered_lines line number left source
    else (if nat_eq b 0o12 then record { text = line; number = number_by left number; is_ended = true } ∷ numbered_lines [] (limit (number + 1)) (one_less left) source
    else numbered_lines (line ++ b ∷ []) number left source)

-- how many lines of a join end in the bytes that are of the next source, if another one follows that
abbrev pub lines_read : List ℕ → List ℕ → Option ℕ
lines_read [] join = None
lines_read (count ∷ counts) join = Some (next_line (text_of (take count join)) - 1)

abbrev pub number_after : ℕ → Option ℕ → ℕ
number_after number None = number
number_after number (Some lines) = limit (number + lines)

-- what is left of a join after the bytes that are of the next source
abbrev pub join_after : List ℕ → List ℕ → List ℕ
join_after [] join = join
join_after (count ∷ counts) join = drop count join

-- the lines of sources that have so many bytes each in their join, with their numbers in that from this one on
abbrev pub all_lines : ℕ → List (Bor (List ℕ)) → List ℕ → List ℕ → List Line
all_lines number [] counts join = []
all_lines number (source ∷ others) counts join =
    numbered_lines [] number (lines_read counts join) source.now
    ++ all_lines (number_after number (lines_read counts join)) others (drop 1 counts) (join_after counts join)

-- ## Rows

-- A line of a listing, with the words that stand at it.
pub record Row : Type 0 where
  pub line : List ℕ
  pub words : List ListedWord
  pub is_ended : Bool

abbrev pub words_at : Option ℕ → List ListedWord → List ListedWord
words_at None words = []
words_at (Some number) words = words_here number words

abbrev pub words_below : Option ℕ → List ListedWord → List ListedWord
words_below None words = words
words_below (Some number) words = words_after number words

-- each line that is read has the words of the statements that begin in it, and another line none
abbrev pub rows_of : List Line → List ListedWord → List Row
rows_of [] words = []
rows_of (l ∷ others) words =
    record { line = l.text; words = words_at l.number words; is_ended = l.is_ended } ∷ rows_of others (words_below l.number words)

-- ## Their text

-- what stands right after a word, if it is made through a link
abbrev pub link_mark : Bool → List ℕ
link_mark true = codes "@"
link_mark false = []

-- what stands between the first word of a line and the line
abbrev pub gap : Bool → List ℕ
gap true = codes "@    "
gap false = codes "     "

abbrev pub pair_of : ListedWord → ℕ × ℕ
pair_of w = (w.cell, w.word)

-- words that stand below the first of a line
abbrev pub below_text : List ListedWord → List ℕ
below_text [] = []
below_text (w ∷ words) = word_text (pair_of w) ++ link_mark w.is_link ++ codes "\n" ++ below_text words

-- a line of a source after its first word, and the others below
abbrev pub line_text : List ℕ → List ListedWord → List ℕ
line_text line [] = margin line ++ line ++ codes "\n"
line_text line (w ∷ words) = word_text (pair_of w) ++ gap w.is_link ++ line ++ codes "\n" ++ below_text words

-- what stands after the last LF of a source is no line if it is empty
abbrev pub last_text : List ℕ → List ListedWord → List ℕ
last_text [] [] = []
last_text [] (w ∷ words) = line_text [] (w ∷ words)
last_text (b ∷ line) words = line_text (b ∷ line) words

abbrev pub row_text : Row → List ℕ
row_text row = if row.is_ended then line_text row.line row.words else last_text row.line row.words

abbrev pub rows_text : List Row → List ℕ
rows_text [] = []
rows_text (row ∷ rows) = row_text row ++ rows_text rows
