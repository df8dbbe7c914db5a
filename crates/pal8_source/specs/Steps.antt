-- What the steps to a source have, for private clauses.
use Rattle.std.specs.Prelude.{◌≡◌, ℕ, ◌+◌, ◌%◌, ◌<◌, zero, suc, nat_eq, Bool, true, false, ◌&&◌, ◌||◌, Option, None, Some, is_some, List, [], ◌∷◌, ◌++◌, codes, slice_index_or}
use Rattle.word12.specs.declared.sizes.TheConstants.{CORE, PAGE}
use Rattle.bin_tape.specs.Items.{Item, IsPrefix}
use Rattle.flow8.specs.Flow.{word_in}
use Rattle.source_notes.specs.Notes.{Notes, is_flagged}
use Rattle.tape_source.specs.Sources.{words_of_tape}
use Rattle.tape_source.specs.Steps.{HoldsMap, IsRefused, look_with, name_by}
use Rattle.tape_source.specs.declared.faults.ListFault.{ListFault}
use Rattle.pal8_source.specs.Pools.{Asks}
use Rattle.pal8_source.specs.Sheets.{Sheet, is_datum}
use Rattle.pal8_source.specs.Lines.{source_of}
use Rattle.pal8_source.specs.Sources.{IsShown}
use Rattle.pal8_source.specs.Texts.{characters, delimiters, first_absent, text_size, word_at}
use Rattle.tape_source.specs.Lines.{comment, line_end}
use Rattle.pal8_source.specs.declared.texts.Text.{Text}

-- how many cells the pool of a page has, by a list, which may be too short
abbrev pub size_in : List ℕ → ℕ → ℕ
size_in sizes page = slice_index_or sizes page 0

-- what refers to the cells of a page first, as lists
pub record AskLists : Type 0 where
  pub own : List (Option ℕ)
  pub later : List (Option ℕ)

abbrev pub asks_in : AskLists → Asks
asks_in a = record { own = word_in a.own; later = word_in a.later }

-- the same refers first to each cell of a page
pub record SameAsks (one other : Asks) : Type 0 where
  pub own : (k : ℕ) → k < PAGE → one.own k ≡ other.own k
  pub later : (k : ℕ) → k < PAGE → one.later k ≡ other.later k

-- what a source shows, as lists
pub record SheetLists : Type 0 where
  pub words : List (Option ℕ)
  pub pools : List Bool
  pub code : List Bool
  pub flags : List Bool
  pub names : Option (List (Option (List ℕ)))
  pub notes : Option Notes
  pub has_starts : Bool

abbrev pub sheet_of : SheetLists → Sheet
sheet_of l = record {
  words = word_in l.words;
  is_pooled = is_flagged l.pools;
  look = look_with l.names l.notes (is_flagged l.code);
  is_tagged = is_flagged l.flags;
  has_starts = l.has_starts;
}

-- so many words, and those that a text has after them
abbrev pub words_and : ℕ → ℕ → ℕ
words_and count zero = 0
words_and count (suc later) = count + suc later

-- a text that has come to a cell ends with its word
abbrev pub ends_text : Sheet → ℕ → Bool
ends_text s cell = is_datum s cell && nat_eq (word_at s cell % 0o100) 0

-- a text of so many words from a cell on, if it isn't 0
abbrev pub IsTextOf : Sheet → ℕ → ℕ → Option Text → Type 0
IsTextOf s cell size None = size ≡ 0
IsTextOf s cell size (Some t) =
    (size ≡ t.size) × (0 < t.size) × (t.characters.items ≡ characters s cell t.size)
    × (first_absent delimiters (characters s cell t.size) ≡ Some t.mark)

-- the text that begins at a cell, if one does
abbrev pub IsText : Sheet → ℕ → Option Text → Type 0
IsText s cell found = IsTextOf s cell (text_size s cell) found

-- the line of a text between two of a character
abbrev pub quoted_line : ℕ → List ℕ → ℕ → ℕ → List ℕ
quoted_line mark text cell word = 0o11 ∷ codes "TEXT " ++ (mark ∷ text ++ mark ∷ []) ++ 0o11 ∷ comment cell word ++ line_end

-- the lowest cell of which this is true, if there is one
abbrev pub IsLowest : (ℕ → Bool) → Option ℕ → Type 0
IsLowest is None = (cell : ℕ) → cell < CORE → is cell ≡ false
IsLowest is (Some cell) = (is cell ≡ true) × ((other : ℕ) → other < cell → is other ≡ false)

-- why a text, if there is one, gives cells with these words no names
abbrev pub IsUnnamed : (ℕ → Option ℕ) → Option (List ℕ) → ListFault → Type 0
IsUnnamed words None fault = ⊥
IsUnnamed words (Some text) fault = IsRefused words text fault

-- a text is the source of these words, of which these are instructions, whichever tape gives the words
pub record IsSourceOfWords (words : List (Option ℕ)) (code : List Bool) (table : Option (List (Option (List ℕ)))) (has_starts : Bool) (text : List ℕ) : Type 0 where
  pub exempt : List Bool
  pub kept : (cell : ℕ) → cell < CORE → is_flagged exempt cell ≡ (is_some (name_by table cell) || (has_starts && is_flagged code cell))
  pub sheet : Sheet
  pub shown : (items : List Item) → IsPrefix items → HoldsMap items words
      → IsShown (record { words = words; code = code; exempt = exempt }) table has_starts (words_of_tape items) sheet
  pub text_is : text ≡ source_of sheet
