-- What is printed of notes: each as a line, in the manner of compilers.
use Rattle.std.specs.Prelude.{ℕ, ◌-◌, codes, decimal, List, [], ◌∷◌, ◌++◌}
use Rattle.std.specs.Borrow.{Bor}
use Rattle.shown_text.specs.Showing.{shown_text}
use Rattle.pal_lex.specs.Text.{text_of}
use Rattle.source_places.specs.Places.{bytes_of}
use Rattle.pal8_places.specs.declared.options.Options.{Options}
use Rattle.pal8_tape.specs.Joins.{bytes_in, counts_of, joined_bytes}
use Rattle.pal8_listing.specs.Uses.{later_starts, spot_from}
use Rattle.pal8_listing.specs.Notes.{notes}
use Rattle.pal8_listing.specs.declared.differences.Difference.{Difference}
use Rattle.pal8_listing.specs.declared.differences.Difference.TheVariants.{Apart, Closer, Tab}
use Rattle.pal8_listing.specs.declared.notes.Note.{Note}

-- the words of a difference
abbrev pub words_of : Difference → List ℕ
words_of Apart = codes "palbart ors what stands before and after a blank before an operator"
words_of Closer = codes "palbart applies the other operators before it ors what a blank joins"
words_of Tab = codes "palbart reads a tab in a string, or after \", as a blank"

-- a note on the line of a source, whose name is shown with escapes where it isn't graphic, by the number of this from 1 and the line in it
abbrev pub spot_note_text : List (Bor (List ℕ)) → ℕ × ℕ → Difference → List ℕ
spot_note_text names spot difference = shown_text (bytes_of names (spot.0 - 1)) ++ codes ":" ++ decimal spot.1 ++ codes ": note: " ++ words_of difference ++ codes "\n"

-- a note on a line of a join, in which the sources but the first begin at these lines
abbrev pub note_text : List (Bor (List ℕ)) → List ℕ → Note → List ℕ
note_text names starts note = spot_note_text names (spot_from 1 1 starts note.line) note.difference

abbrev pub note_texts : List (Bor (List ℕ)) → List ℕ → List Note → List ℕ
note_texts names starts [] = []
note_texts names starts (note ∷ others) = note_text names starts note ++ note_texts names starts others

-- the lines of the notes on sources with these names
abbrev pub notes_text : Options → List (Bor (List ℕ)) → List (Bor (List ℕ)) → List ℕ
notes_text options sources names =
    note_texts names (later_starts 1 (counts_of options (bytes_in sources)) (joined_bytes options (bytes_in sources)))
    (notes options (text_of (joined_bytes options (bytes_in sources))))
