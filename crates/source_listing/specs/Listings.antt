-- The listing of sources (PAL III Symbolic Assembler manual and PAL8, and this project's profile of them).
use Rattle.std.specs.Prelude.{◌≡◌, ℕ, nat_lt, Bool, None, length, codes, List, ◌++◌}
use Rattle.std.specs.Borrow.{Bor}
use Rattle.pal_lex.specs.Statements.{statements}
use Rattle.pal_asm.specs.Places.{values}
use Rattle.pal_asm.specs.Words.{pairs_of}
use Rattle.pal_asm.specs.Faults.{fault_of}
use Rattle.host_sources.specs.Sources.{texts_of, newest_first, counts_of}
use Rattle.source_listing.specs.Rows.{Row, word_ends, all_rows, rows_text}
use Rattle.host_sources.specs.Symbols.{symbols_of}
use Rattle.source_listing.specs.Symbols.{table_text}
use Rattle.source_listing.specs.References.{spot_by, mentions, AreByName, cross_text}
use Rattle.source_listing.specs.declared.references.Mention.{Mention}
use Rattle.source_listing.specs.declared.listing.ListingForm.{ListingForm}
use Rattle.source_listing.specs.declared.listing.ListingForm.TheVariants.{Symbols, Cross}

-- the lines of sources, with how many words stand at each
abbrev pub rows_of : List (Bor (List ℕ)) → List Row
rows_of sources = all_rows sources (counts_of (texts_of sources)) (word_ends (newest_first sources))

-- the lines of sources with their words, and an empty line
abbrev pub lines_text : List (Bor (List ℕ)) → List ℕ
lines_text sources = rows_text (rows_of sources) (pairs_of (newest_first sources)) ++ codes "\n"

-- the names in the statements of sources, each with its source and line
abbrev pub mentions_of : List (Bor (List ℕ)) → List Mention
mentions_of sources = mentions (spot_by sources) (newest_first sources)

-- more than one
abbrev pub are_several : List (Bor (List ℕ)) → Bool
are_several sources = nat_lt 1 (length sources)

-- The symbols of sources, each on a line with its last value; in a cross reference with the lines that name it.
abbrev pub AreSymbols : ListingForm → List (Bor (List ℕ)) → List ℕ → Type 0
AreSymbols Symbols sources text = text ≡ table_text (symbols_of (statements (newest_first sources)))
AreSymbols Cross sources text =
    (by_name : List Mention) × AreByName (mentions_of sources) by_name
    × (text ≡ cross_text (are_several sources) (values (statements (newest_first sources))) None by_name)

-- The sources have no fault, and this is their listing: their lines with their words, and after an empty line their symbols.
abbrev pub IsListed : ListingForm → List (Bor (List ℕ)) → List ℕ → Type 0
IsListed form sources text =
    (fault_of (newest_first sources) ≡ None) × ((symbols : List ℕ) × AreSymbols form sources symbols × (text ≡ lines_text sources ++ symbols))
