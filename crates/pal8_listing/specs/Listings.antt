-- The listing of sources (PAL8, the assembler of OS/8, in this project's profile).
use Rattle.std.specs.Prelude.{◌≡◌, ℕ, Ok, codes, List, ◌++◌}
use Rattle.std.specs.Borrow.{Bor}
use Rattle.std.specs.Ordering.{nat_cmp}
use Rattle.std.specs.BTreeMap.{BTreeMap, get}
use Rattle.pal_lex.specs.Text.{text_of}
use Rattle.pal8_values.specs.Sums.{Meanings}
use Rattle.pal8_pools.specs.Cells.{ArePairs}
use Rattle.pal8_asm.specs.Marks.{last_values, marks_of}
use Rattle.pal8_asm.specs.Sources.{Remainder, remainder_of_text}
use Rattle.pal8_asm.specs.Tapes.{TapeWords}
use Rattle.pal8_places.specs.declared.options.Options.{Options}
use Rattle.pal8_tape.specs.Joins.{bytes_in, counts_of, joined_bytes}
use Rattle.pal8_tape.specs.Answers.{result_of}
use Rattle.pal8_listing.specs.Texts.{names_text, pool_text}
use Rattle.pal8_listing.specs.declared.words.ListedWord.{ListedWord}
use Rattle.source_listing.specs.declared.listing.ListingForm.{ListingForm}
use Rattle.source_listing.specs.declared.listing.ListingForm.TheVariants.{Symbols, Cross}
use Rattle.pal8_listing.specs.Uses.{cross_text, later_starts, uses}
use Rattle.pal8_listing.specs.Rows.{Row, all_lines, listed_words, rows_of, rows_text}

-- the lines of sources, each with the words of the statements that begin in it, where these are the words with their marks
abbrev pub rows_in : Options → List (Bor (List ℕ)) → List ListedWord → List Row
rows_in options sources words = rows_of (all_lines 1 sources (counts_of options (bytes_in sources)) (joined_bytes options (bytes_in sources))) words

-- Names, each with its last value. In a cross reference the lines that use it stand after that.
abbrev pub symbols_text : ListingForm → Options → List (Bor (List ℕ)) → List (ℕ × ℕ) → List ℕ
symbols_text Symbols options sources entries = names_text entries
symbols_text Cross options sources entries =
    cross_text (later_starts 1 (counts_of options (bytes_in sources)) (joined_bytes options (bytes_in sources)))
    (uses options (text_of (joined_bytes options (bytes_in sources)))) entries

-- The names are in the order of their numbers, each with its last value.
pub record AreNames (last : Meanings) (names : BTreeMap ℕ ℕ) : Type 0 where
  pub each : (n : ℕ) → get nat_cmp names n ≡ last n

-- The sources have no fault, and this is their listing. Their lines stand first, with their words. Then come the cells of their pools, and after an empty
-- line their own names with their last values, and in a cross reference the lines that use each.
pub record IsListed (form : ListingForm) (options : Options) (sources : List (Bor (List ℕ))) (text : List ℕ) : Type 0 where
  pub made : TapeWords
  pub is_whole : result_of options (bytes_in sources) ≡ Ok made
  pub left : Remainder
  pub leaves : remainder_of_text options (text_of (joined_bytes options (bytes_in sources))) ≡ Ok left
  pub pool : List (ℕ × ℕ)
  pub is_pool : ArePairs made.asks made.punched pool
  pub names : BTreeMap ℕ ℕ
  pub are_names : AreNames (last_values left.standing.names.own left.standing.late left.entries) names
  pub are : text ≡ rows_text (rows_in options sources (listed_words made.words (marks_of left.entries))) ++ pool_text pool ++ codes "\n" ++ symbols_text form options sources names.entries
