-- What holds of each listing, for the laws.
use Rattle.std.specs.Prelude.{◌≡◌, ℕ, List, [], ◌∷◌, ◌++◌}
use Rattle.std.specs.Borrow.{Bor}
use Rattle.pal8_asm.specs.Marks.{marks_of}
use Rattle.pal8_places.specs.declared.options.Options.{Options}
use Rattle.pal8_tape.specs.Answers.{IsTape}
use Rattle.pal8_listing.specs.Listings.{IsListed, rows_in}
use Rattle.pal8_listing.specs.Rows.{Row, listed_words, pair_of}
use Rattle.pal8_listing.specs.declared.words.ListedWord.{ListedWord}
use Rattle.source_listing.specs.declared.listing.ListingForm.{ListingForm}

-- listed words, each with its cell
abbrev pub listed_pairs : List ListedWord → List (ℕ × ℕ)
listed_pairs [] = []
listed_pairs (w ∷ words) = pair_of w ∷ listed_pairs words

-- the words that stand at rows with their cells, one row after the other
abbrev pub words_of_rows : List Row → List (ℕ × ℕ)
words_of_rows [] = []
words_of_rows (row ∷ rows) = listed_pairs row.words ++ words_of_rows rows

-- A listing has just the words of its tape. They stand at its lines, one line after the other, and then as the cells of its pools. Each word of the tape
-- stands there once, with its cell, in the order of the tape, and no other one.
abbrev pub WordsAreListed : Type 0
WordsAreListed =
    (form : ListingForm) (options : Options) (sources : List (Bor (List ℕ))) (text frames : List ℕ) → (listed : IsListed form options sources text)
    → (tape : IsTape options sources frames)
    → words_of_rows (rows_in options sources (listed_words listed.made.words (marks_of listed.left.entries))) ++ listed.pool ≡ tape.pairs
