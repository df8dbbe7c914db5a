-- The parts of a listing.
use Rattle.std.proofs.Common.{◌≡◌, ℕ, length, take, drop, codes, List, [], ◌∷◌, ◌++◌, refl, ap, ◌∙◌}
use Rattle.std.specs.Borrow.{Bor}
use Rattle.pal_lex.specs.Text.{text_of}
use Rattle.pal8_asm.specs.Marks.{HasParts, marks_of}
use Rattle.pal8_asm.specs.declared.assembling.Parts.{Parts}
use Rattle.pal8_places.specs.declared.options.Options.{Options}
use Rattle.pal8_tape.specs.Joins.{bytes_in, counts_of, joined_bytes}
use Rattle.pal8_listing.specs.Listings.{IsListed, rows_in, symbols_text}
use Rattle.pal8_listing.specs.Rows.{all_lines, listed_words, rows_of, rows_text}
use Rattle.pal8_listing.specs.Texts.{pool_text}
use Rattle.source_listing.specs.declared.listing.ListingForm.{ListingForm}
use Rattle.source_listing.specs.declared.listing.ListingForm.TheVariants.{Cross}
use Rattle.pal8_listing.specs.Uses.{cross_text, later_starts, uses}
use Rattle.pal8_listing.specs.declared.words.ListedWord.{ListedWord}

take_front : {A : Type 0} (a b : List A) → take (length a) (a ++ b) ≡ a
take_front [] b = refl
take_front (x ∷ a) b = ap (λ l. x ∷ l) (take_front a b)

drop_front : {A : Type 0} (a b : List A) → drop (length a) (a ++ b) ≡ b
drop_front [] b = refl
drop_front (x ∷ a) b = drop_front a b

-- the rows, the pools and the names of sources, one after the other, are their listing
pub is_listed : (form : ListingForm) (options : Options) (sources : List (Bor (List ℕ))) (parts : Parts) (pairs pool : List (ℕ × ℕ)) (words : List ListedWord) (a b d e : List ℕ)
    → HasParts options (text_of (joined_bytes options (bytes_in sources))) parts → pairs ≡ take parts.word_count parts.pairs.items → pool ≡ drop parts.word_count parts.pairs.items
    → words ≡ listed_words pairs parts.marks.items → a ≡ rows_text (rows_in options sources words) → b ≡ a ++ pool_text pool → d ≡ b ++ codes "\n"
    → e ≡ d ++ symbols_text form options sources parts.names.entries → IsListed form options sources e
is_listed form options sources parts pairs pool words a b d e has first rest are_words rows pools blank names =
    let made = has.assembled.made in
    let words_are : words ≡ listed_words made.words (marks_of has.left.entries) =
    are_words
    ∙ ap (λ l. listed_words l parts.marks.items)
    (first ∙ ap (take parts.word_count) has.assembled.are ∙ ap (λ n. take n (made.words ++ has.assembled.pool)) has.count ∙ take_front made.words has.assembled.pool)
    ∙ ap (listed_words made.words) has.marks in
    let pool_is : pool ≡ has.assembled.pool =
    rest ∙ ap (drop parts.word_count) has.assembled.are ∙ ap (λ n. drop n (made.words ++ has.assembled.pool)) has.count ∙ drop_front made.words has.assembled.pool in
    record {
      made = made;
      is_whole = has.assembled.is_whole;
      left = has.left;
      leaves = has.leaves;
      pool = has.assembled.pool;
      is_pool = has.assembled.is_pool;
      names = parts.names;
      are_names = record { each = has.names };
      are =
          names
          ∙ ap (λ l. l ++ symbols_text form options sources parts.names.entries)
          (blank
          ∙ ap (λ l. l ++ codes "\n")
          (pools ∙ ap (λ l. l ++ pool_text pool) (rows ∙ ap (λ w. rows_text (rows_in options sources w)) words_are)
          ∙ ap (λ p. rows_text (rows_in options sources (listed_words made.words (marks_of has.left.entries))) ++ pool_text p) pool_is));
    }

-- rows that are put first stand alone
pub rows_are : (options : Options) (sources : List (Bor (List ℕ))) (old new counts join : List ℕ) (words words' : List ListedWord) → old ≡ [] → counts ≡ counts_of options (bytes_in sources)
    → join ≡ joined_bytes options (bytes_in sources) → words ≡ words' → new ≡ old ++ rows_text (rows_of (all_lines 1 sources counts join) words)
    → new ≡ rows_text (rows_in options sources words')
rows_are options sources old new counts join words words' none counts_are join_is words_are puts =
    puts ∙ ap (λ l. l ++ rows_text (rows_of (all_lines 1 sources counts join) words)) none
    ∙ ap (λ c. rows_text (rows_of (all_lines 1 sources c join) words)) counts_are
    ∙ ap (λ j. rows_text (rows_of (all_lines 1 sources (counts_of options (bytes_in sources)) j) words)) join_is
    ∙ ap (λ w. rows_text (rows_in options sources w)) words_are

-- the cross reference of a join is that of its sources
pub cross_is : (options : Options) (sources : List (Bor (List ℕ))) (counts join old new starts : List ℕ) (entries : List (ℕ × ℕ))
    → join ≡ joined_bytes options (bytes_in sources) → counts ≡ counts_of options (bytes_in sources) → starts ≡ later_starts 1 counts join
    → new ≡ old ++ cross_text starts (uses options (text_of join)) entries → new ≡ old ++ symbols_text Cross options sources entries
cross_is options sources counts join old new starts entries join_is counts_are starts_are puts =
    puts ∙ ap (λ s. old ++ cross_text s (uses options (text_of join)) entries) starts_are
    ∙ ap (λ c. old ++ cross_text (later_starts 1 c join) (uses options (text_of join)) entries) counts_are
    ∙ ap (λ j. old ++ cross_text (later_starts 1 (counts_of options (bytes_in sources)) j) (uses options (text_of j)) entries) join_is
