-- The lines of a listing (PAL III Symbolic Assembler manual, and this project's profile of it).
use Rattle.std.specs.Prelude.{ℕ, ◌+◌, ◌/◌, ◌%◌, nat_eq, Bool, true, false, ◌&&◌, if◌then◌else◌, take, drop, codes, List, [], ◌∷◌, ◌++◌, Ok, Err}
use Rattle.std.specs.Borrow.{Bor}
use Rattle.word12.specs.Octal.{octal4}
use Rattle.word12.specs.declared.sizes.TheConstants.{FIELD}
use Rattle.pal_lex.specs.Text.{ends_statement}
use Rattle.pal_lex.specs.Statements.{statements}
use Rattle.pal_asm.specs.Places.{Source, is_word}

-- ## Which bytes of a text end words

-- the newest of statements is a word
abbrev pub is_newest_word : Source → Bool
is_newest_word [] = false
is_newest_word (Err fault ∷ older) = false
is_newest_word (Ok s ∷ older) = is_word s.body

-- a byte after a text ends the statement of a word
abbrev pub ends_word : List ℕ → ℕ → Bool
ends_word older b = ends_statement older b && is_newest_word (statements (b ∷ older))

-- whether each byte of a text ends a word, in the order of the text
abbrev pub word_ends : List ℕ → List Bool
word_ends [] = []
word_ends (b ∷ older) = word_ends older ++ ends_word older b ∷ []

-- ## The lines of sources

-- a line of a source, how many words stand at it, and whether LF ends it
pub record Row : Type 0 where
  pub line : List ℕ
  pub words : ℕ
  pub ended : Bool

-- one word, if the first of some bytes ends one
abbrev pub first_end : List Bool → ℕ
first_end [] = 0
first_end (true ∷ ends) = 1
first_end (false ∷ ends) = 0

-- as many words as the first two of some bytes end
unfoldable pub two_ends : List Bool → ℕ
two_ends ends = first_end ends + first_end (drop 1 ends)

-- The rows of a source after the beginning of a line, at which so many words stand. Each byte but CR has its end in the
-- text, and LF has two, that of its CR and its own.
abbrev pub rows : List ℕ → ℕ → List ℕ → List Bool → List Row
rows line words [] ends = record { line = line; words = words; ended = false } ∷ []
rows line words (b ∷ source) ends =
    if nat_eq b 0o15 then rows line words source ends
    else (if nat_eq b 0o12 then record { line = line; words = words + two_ends ends; ended = true } ∷ rows [] 0 source (drop 2 ends)
    else rows (line ++ b ∷ []) (words + first_end ends) source (drop 1 ends))

-- What is given for the bytes of a source of which so many are in a join, by the counts for this and further ones. It is
-- all where there is no count.
abbrev pub own_ends : {A : Type 0} → List ℕ → List A → List A
own_ends [] ends = ends
own_ends (count ∷ counts) ends = take count ends

-- the ends of the sources after it
abbrev pub later_ends : List ℕ → List Bool → List Bool
later_ends [] ends = []
later_ends (count ∷ counts) ends = drop count ends

-- the rows of sources that have so many bytes each in their join
abbrev pub all_rows : List (Bor (List ℕ)) → List ℕ → List Bool → List Row
all_rows [] counts ends = []
all_rows (source ∷ others) counts ends = rows [] 0 source.now (own_ends counts ends) ++ all_rows others (drop 1 counts) (later_ends counts ends)

-- ## Their text

-- the five digits of a cell and the four of its word
unfoldable pub word_text : ℕ × ℕ → List ℕ
word_text pair = (0o60 + pair.0 / FIELD) ∷ octal4 (pair.0 % FIELD) ++ codes "  " ++ octal4 pair.1

-- words that stand below the first of a line
abbrev pub below_text : List (ℕ × ℕ) → List ℕ
below_text [] = []
below_text (pair ∷ pairs) = word_text pair ++ codes "\n" ++ below_text pairs

-- what stands before a line with no word
abbrev pub margin : List ℕ → List ℕ
margin [] = []
margin (b ∷ line) = codes "                "

-- a line of a source after its first word, and the others below
abbrev pub line_text : List ℕ → List (ℕ × ℕ) → List ℕ
line_text line [] = margin line ++ line ++ codes "\n"
line_text line (pair ∷ pairs) = word_text pair ++ codes "     " ++ line ++ codes "\n" ++ below_text pairs

-- what stands after the last LF of a source is no line if it is empty
abbrev pub last_text : List ℕ → List (ℕ × ℕ) → List ℕ
last_text [] pairs = []
last_text (b ∷ line) pairs = line_text (b ∷ line) pairs

-- a row with its words
abbrev pub row_text : Row → List (ℕ × ℕ) → List ℕ
row_text row pairs = if row.ended then line_text row.line pairs else last_text row.line pairs

-- rows, over which these words are spread
abbrev pub rows_text : List Row → List (ℕ × ℕ) → List ℕ
rows_text [] pairs = []
rows_text (row ∷ rows) pairs = row_text row (take row.words pairs) ++ rows_text rows (drop row.words pairs)
