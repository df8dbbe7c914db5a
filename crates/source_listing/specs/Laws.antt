-- What holds of each listing, for the laws.
use Rattle.std.specs.Prelude.{◌≡◌, ℕ, ◌+◌, nat_eq, if◌then◌else◌, None, length, take, drop, replicate, List, [], ◌∷◌, ◌++◌}
use Rattle.std.specs.Borrow.{Bor}
use Rattle.pal_asm.specs.Words.{pairs_of}
use Rattle.pal_asm.specs.Faults.{fault_of}
use Rattle.host_sources.specs.Sources.{newest_first}
use Rattle.source_listing.specs.Rows.{Row, ends_word}
use Rattle.source_listing.specs.Listings.{rows_of}
use Rattle.source_listing.specs.References.{spot_by}
use Rattle.source_listing.specs.declared.spots.Spot.{Spot}

-- ## Words

-- the words that stand at rows, one row after the other
abbrev pub words_at : List Row → List (ℕ × ℕ) → List (ℕ × ℕ)
words_at [] pairs = []
words_at (row ∷ rows) pairs = take row.words pairs ++ words_at rows (drop row.words pairs)

abbrev pub word_count : List Row → ℕ
word_count [] = 0
word_count (row ∷ rows) = row.words + word_count rows

-- The words that stand at the lines of a listing, one line after the other, are those of the join of the sources, in their
-- order and no others. Each line has as many as stand there.
abbrev pub WordsAreListed : Type 0
WordsAreListed =
    (sources : List (Bor (List ℕ))) → fault_of (newest_first sources) ≡ None
    → (words_at (rows_of sources) (pairs_of (newest_first sources)) ≡ pairs_of (newest_first sources))
    × (word_count (rows_of sources) ≡ length (pairs_of (newest_first sources)))

-- ## Lines

-- a byte in front of the first of lines
abbrev pub in_front : ℕ → List (List ℕ) → List (List ℕ)
in_front b [] = (b ∷ []) ∷ []
in_front b (line ∷ lines) = (b ∷ line) ∷ lines

-- the lines of a source: LF ends one, each CR is left out, and after the last LF there is one more, which may be empty
abbrev pub lines : List ℕ → List (List ℕ)
lines [] = [] ∷ []
lines (b ∷ source) = if nat_eq b 0o15 then lines source else (if nat_eq b 0o12 then [] ∷ lines source else in_front b (lines source))

abbrev pub all_lines : List (Bor (List ℕ)) → List (List ℕ)
all_lines [] = []
all_lines (source ∷ others) = lines source.now ++ all_lines others

abbrev pub row_lines : List Row → List (List ℕ)
row_lines [] = []
row_lines (row ∷ rows) = row.line ∷ row_lines rows

-- The lines of a listing are those of the sources, whatever stands at them.
abbrev pub LinesAreListed : Type 0
LinesAreListed = (sources : List (Bor (List ℕ))) → row_lines (rows_of sources) ≡ all_lines sources

-- ## Where words stand

-- a spot for each line of a source that has this number, from this line on
abbrev pub line_spots : ℕ → ℕ → List (List ℕ) → List Spot
line_spots number line [] = []
line_spots number line (text ∷ lines) = record { source = number; line = line } ∷ line_spots number (line + 1) lines

-- a spot for each line of sources, of which the first has this number
abbrev pub row_spots : ℕ → List (Bor (List ℕ)) → List Spot
row_spots number [] = []
row_spots number (source ∷ others) = line_spots number 1 (lines source.now) ++ row_spots (number + 1) others

-- the spots of the words that stand at rows with these spots
abbrev pub word_spots : List Row → List Spot → List Spot
word_spots [] spots = []
word_spots (row ∷ rows) [] = []
word_spots (row ∷ rows) (spot ∷ spots) = replicate row.words spot ++ word_spots rows spots

-- the spots of the words of a text, each that of the byte that ends its statement
abbrev pub end_spots : (ℕ → Spot) → List ℕ → List Spot
end_spots spot [] = []
end_spots spot (b ∷ older) = end_spots spot older ++ (if ends_word older b then spot (length older) ∷ [] else [])

-- The words of a listing stand each at the source and the line at which its statement ends.
abbrev pub WordsStand : Type 0
WordsStand =
    (sources : List (Bor (List ℕ))) → word_spots (rows_of sources) (row_spots 1 sources) ≡ end_spots (spot_by sources) (newest_first sources)
