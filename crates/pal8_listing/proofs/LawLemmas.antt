-- A listing has just the words of its tape.
use Rattle.std.proofs.Common.{◌≡◌, ℕ, ◌+◌, Ok, length, List, [], ◌∷◌, ◌++◌, refl, sym, ap, subst, ◌∙◌}
use Rattle.std.specs.Borrow.{Bor}
use Rattle.pal_lex.specs.Text.{limit, text_of}
use Rattle.pal8_lex.specs.Text.{line_after, live}
use Rattle.pal8_pools.specs.Cells.{ArePairs}
use Rattle.pal8_asm.specs.Marks.{marks_of}
use Rattle.pal8_asm.specs.Sources.{Remainder, first_left, remainder_of_text}
use Rattle.pal8_asm.specs.Tapes.{TapeWords}
use Rattle.pal8_places.specs.declared.options.Options.{Options}
use Rattle.pal8_tape.specs.Joins.{bytes_in, counts_of, joined_bytes}
use Rattle.pal8_tape.specs.Answers.{result_of}
use Rattle.pal8_listing.specs.Laws.{WordsAreListed, listed_pairs, words_of_rows}
use Rattle.pal8_listing.specs.Listings.{rows_in}
use Rattle.pal8_listing.specs.Rows.{all_lines, listed_words}
use Rattle.pal8_listing.proofs.CoverLemmas.{covered, feeds_turned, live_feeds}
use Rattle.pal8_listing.proofs.LineLemmas.{AtMost, Begin, Rises, begin_text, entry_lines, mark_lines, most_marks, rise_marks}
use Rattle.pal8_listing.proofs.WalkLemmas.{all_words, feeds, lines_are, pairs_are, word_lines, words_left}
use Rattle.pal8_listing.proofs.WordLemmas.{count_text, same_pool, whole_same}

nothing_more : (l : List (ℕ × ℕ)) → l ++ [] ≡ l
nothing_more [] = refl
nothing_more (x ∷ l) = ap (λ m. x ∷ m) (nothing_more l)

no_source : (options : Options) (left : Remainder) → remainder_of_text options [] ≡ Ok left → ⊥
no_source options left is = cc

module _ (options : Options) (source : Bor (List ℕ)) (others : List (Bor (List ℕ))) (made : TapeWords) (left : Remainder)
    (is : result_of options (bytes_in (source ∷ others)) ≡ Ok made)
    (leaves : remainder_of_text options (text_of (joined_bytes options (bytes_in (source ∷ others)))) ≡ Ok left)
  where
    abbrev join : List ℕ
    join = joined_bytes options (bytes_in (source ∷ others))

    count : length made.words ≡ length (marks_of left.entries)
    count = count_text options (text_of join) made left is leaves

    lines : word_lines (listed_words made.words (marks_of left.entries)) ≡ mark_lines (marks_of left.entries)
    lines = lines_are made.words (marks_of left.entries) count

    begin : Begin 1 (line_after (live (text_of join))) left.entries
    begin = begin_text options (text_of join) left leaves

    last : line_after (live (text_of join)) ≡ limit (1 + feeds join)
    last = ap (λ n. limit (1 + n)) (live_feeds (text_of join) ∙ feeds_turned join)

    none : words_left (all_lines 1 (source ∷ others) (counts_of options (bytes_in (source ∷ others))) join) (listed_words made.words (marks_of left.entries)) ≡ []
    none =
        covered (Ok (first_left options)) source others 1 (listed_words made.words (marks_of left.entries))
        (subst (λ l. Rises 1 l) (sym lines) (rise_marks left.entries 1 begin.0))
        (subst (λ l. AtMost (limit (1 + feeds join)) l) (sym lines)
        (most_marks left.entries (limit (1 + feeds join)) (subst (λ n. AtMost n (entry_lines left.entries)) last begin.1)))

    some_listed : words_of_rows (rows_in options (source ∷ others) (listed_words made.words (marks_of left.entries))) ≡ made.words
    some_listed =
        sym (nothing_more _)
        ∙ ap (λ ws. words_of_rows (rows_in options (source ∷ others) (listed_words made.words (marks_of left.entries))) ++ listed_pairs ws) (sym none)
        ∙ all_words (all_lines 1 (source ∷ others) (counts_of options (bytes_in (source ∷ others))) join) (listed_words made.words (marks_of left.entries))
        ∙ pairs_are made.words (marks_of left.entries) count

-- the words at the rows of a listing are those of its text
all_listed : (options : Options) (sources : List (Bor (List ℕ))) (made : TapeWords) (left : Remainder) → result_of options (bytes_in sources) ≡ Ok made
    → remainder_of_text options (text_of (joined_bytes options (bytes_in sources))) ≡ Ok left
    → words_of_rows (rows_in options sources (listed_words made.words (marks_of left.entries))) ≡ made.words
all_listed options [] made left is leaves = absurd (no_source options left leaves)
all_listed options (source ∷ others) made left is leaves = some_listed options source others made left is leaves

pub words_listed : WordsAreListed
words_listed = λ form options sources text frames listed tape.
    let same : tape.are_all.made ≡ listed.made = whole_same _ _ (sym tape.are_all.is_whole ∙ listed.is_whole) in
    ap (λ l. l ++ listed.pool) (all_listed options sources listed.made listed.left listed.is_whole listed.leaves)
    ∙ ap (λ (m : TapeWords). m.words ++ listed.pool) (sym same)
    ∙ ap (λ l. tape.are_all.made.words ++ l)
    (same_pool tape.are_all.made.asks tape.are_all.made.punched listed.pool tape.are_all.pool
    (subst (λ (m : TapeWords). ArePairs m.asks m.punched listed.pool) (sym same) listed.is_pool) tape.are_all.is_pool)
    ∙ sym tape.are_all.are
