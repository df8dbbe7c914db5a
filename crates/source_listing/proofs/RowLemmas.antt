-- The rows of a listing.
use Rattle.std.proofs.Common.{◌≡◌, ℕ, ◌+◌, ◌/◌, ◌%◌, ◌≤◌, nat_eq, Bool, true, false, ◌&&◌, if◌then◌else◌, Option, Some, None, Ok, unwrap_or, zero, suc, length, take, drop, List, [], ◌∷◌, ◌++◌, refl, ap, sym, ◌∙◌, append_assoc, append-nil, length-append, arith}
use Rattle.std.specs.Borrow.{Bor}
use Rattle.word12.specs.Octal.{octal4}
use Rattle.pal_lex.specs.Text.{is_dead, is_end, ends_statement, up_to_end}
use Rattle.pal_lex.specs.Statements.{statements}
use Rattle.pal_lex.specs.Joins.{pauses, first_text, before_pause}
use Rattle.pal_lex.specs.Reading.{with_tokens}
use Rattle.pal_lex.specs.declared.phrases.Statement.{Statement}
use Rattle.pal_lex.specs.declared.pieces.Token.{Token}
use Rattle.pal_asm.specs.Places.{is_word}
use Rattle.host_sources.specs.Sources.{texts_of, newest_first, counts_of}
use Rattle.source_listing.specs.Rows.{Row, is_newest_word, ends_word, word_ends, first_end, two_ends, rows, own_ends, later_ends, all_rows, word_text}
use Rattle.source_listing.specs.Laws.{in_front, lines, all_lines, row_lines, LinesAreListed}

-- ## Which bytes of a text end words

pub ends_none : (text : List ℕ) (b : ℕ) → ends_statement text b ≡ false → false ≡ ends_word text b
ends_none text b none = sym (ap (λ (t : Bool). t && is_newest_word (statements (b ∷ text))) none)

pub ends_some : (text : List ℕ) (b : ℕ) (s : Statement) (tokens : List Token) → ends_statement text b ≡ true → statements (b ∷ text) ≡ Ok (with_tokens tokens s) ∷ statements text
    → is_word s.body ≡ ends_word text b
ends_some text b s tokens ends more = sym (ap (λ (t : Bool). t && is_newest_word (statements (b ∷ text))) ends ∙ ap is_newest_word more)

pub length_ends : (text : List ℕ) → length (word_ends text) ≡ length text
length_ends [] = refl
length_ends (b ∷ older) = length-append (word_ends older) (ends_word older b ∷ []) ∙ (let before = length_ends older in omega (arith, before))

-- ## The text of a word

pub word_put : (old a b c d digit at blanks digits : List ℕ) (field address cell word : ℕ) → a ≡ old ++ digit → b ≡ a ++ at → c ≡ b ++ blanks → d ≡ c ++ digits
    → digit ≡ (48 + field) ∷ [] → field ≡ cell / 4096 → at ≡ octal4 address → address ≡ cell % 4096 → blanks ≡ 32 ∷ 32 ∷ [] → digits ≡ octal4 word → d ≡ old ++ word_text (cell, word)
unfolding word_text
word_put old a b c d digit at blanks digits field address cell word ea eb ec ed is field_is at_is address_is blanks_are digits_are =
    ed ∙ ap (λ l. l ++ digits) (ec ∙ ap (λ l. l ++ blanks) (eb ∙ ap (λ l. l ++ at) ea)) ∙ append_assoc (old ++ digit ++ at) blanks digits
    ∙ append_assoc (old ++ digit) at (blanks ++ digits) ∙ append_assoc old digit (at ++ (blanks ++ digits))
    ∙ ap (λ l. old ++ (l ++ (at ++ (blanks ++ digits)))) (is ∙ ap (λ n. (48 + n) ∷ []) field_is)
    ∙ ap (λ l. old ++ ((48 + cell / 4096) ∷ (l ++ (blanks ++ digits)))) (at_is ∙ ap octal4 address_is)
    ∙ ap (λ l. old ++ ((48 + cell / 4096) ∷ (octal4 (cell % 4096) ++ (l ++ digits)))) blanks_are
    ∙ ap (λ l. old ++ ((48 + cell / 4096) ∷ (octal4 (cell % 4096) ++ (32 ∷ 32 ∷ l)))) digits_are

-- ## Lines

-- a line so far in front of the first of lines
after_line : List ℕ → List (List ℕ) → List (List ℕ)
after_line so_far [] = so_far ∷ []
after_line so_far (line ∷ lines) = (so_far ++ line) ∷ lines

in_line : (so_far : List ℕ) (b : ℕ) (l : List (List ℕ)) → after_line (so_far ++ b ∷ []) l ≡ after_line so_far (in_front b l)
unfolding after_line
in_line so_far b [] = refl
in_line so_far b (line ∷ lines) = ap (λ x. x ∷ lines) (append_assoc so_far (b ∷ []) line)

lines_by : (cr lf : Bool) (so_far : List ℕ) (b : ℕ) (source : List ℕ) (at_cr at_lf at_other : List (List ℕ)) → at_cr ≡ after_line so_far (lines source) → at_lf ≡ so_far ∷ lines source
    → at_other ≡ after_line (so_far ++ b ∷ []) (lines source)
    → (if cr then at_cr else (if lf then at_lf else at_other)) ≡ after_line so_far (if cr then lines source else (if lf then [] ∷ lines source else in_front b (lines source)))
unfolding after_line
lines_by true lf so_far b source at_cr at_lf at_other c l o = c
lines_by false true so_far b source at_cr at_lf at_other c l o = l ∙ ap (λ x. x ∷ lines source) (sym (append-nil so_far))
lines_by false false so_far b source at_cr at_lf at_other c l o = o ∙ in_line so_far b (lines source)

rows_if : (cr lf : Bool) (a b c : List Row) → row_lines (if cr then a else (if lf then b else c)) ≡ (if cr then row_lines a else (if lf then row_lines b else row_lines c))
rows_if true lf a b c = refl
rows_if false true a b c = refl
rows_if false false a b c = refl

pub some_line : (source : List ℕ) → (line : List ℕ) × ((others : List (List ℕ)) × (lines source ≡ line ∷ others))
some_line [] = ([], ([], refl))
some_line (b ∷ source) = by_tests (nat_eq b 13) (nat_eq b 10) (some_line source)
  where
    by_tests : (cr lf : Bool) → (line : List ℕ) × ((others : List (List ℕ)) × (lines source ≡ line ∷ others))
        → (line : List ℕ) × ((others : List (List ℕ)) × ((if cr then lines source else (if lf then [] ∷ lines source else in_front b (lines source))) ≡ line ∷ others))
    by_tests true lf some = some
    by_tests false true some = ([], (lines source, refl))
    by_tests false false some = (b ∷ some.0, (some.1.0, ap (in_front b) some.1.1))

nothing_before : (source : List ℕ) → after_line [] (lines source) ≡ lines source
unfolding after_line
nothing_before source = let some = some_line source in ap (after_line []) some.1.1 ∙ sym some.1.1

row_by_row : (so_far : List ℕ) (words : ℕ) (source : List ℕ) (ends : List Bool) → row_lines (rows so_far words source ends) ≡ after_line so_far (lines source)
unfolding after_line
row_by_row so_far words [] ends = ap (λ x. x ∷ []) (sym (append-nil so_far))
row_by_row so_far words (b ∷ source) ends =
    rows_if (nat_eq b 13) (nat_eq b 10) (rows so_far words source ends)
    (record { line = so_far; words = words + two_ends ends; ended = true } ∷ rows [] 0 source (drop 2 ends))
    (rows (so_far ++ b ∷ []) (words + first_end ends) source (drop 1 ends))
    ∙ lines_by (nat_eq b 13) (nat_eq b 10) so_far b source _ _ _ (row_by_row so_far words source ends)
    (ap (λ x. so_far ∷ x) (row_by_row [] 0 source (drop 2 ends) ∙ nothing_before source)) (row_by_row (so_far ++ b ∷ []) (words + first_end ends) source (drop 1 ends))

pub lines_by_row : (source : List ℕ) (ends : List Bool) → row_lines (rows [] 0 source ends) ≡ lines source
lines_by_row source ends = row_by_row [] 0 source ends ∙ nothing_before source

row_lines-append : (a b : List Row) → row_lines (a ++ b) ≡ row_lines a ++ row_lines b
row_lines-append [] b = refl
row_lines-append (row ∷ a) b = ap (λ l. row.line ∷ l) (row_lines-append a b)

source_by_source : (sources : List (Bor (List ℕ))) (counts : List ℕ) (ends : List Bool) → row_lines (all_rows sources counts ends) ≡ all_lines sources
source_by_source [] counts ends = refl
source_by_source (source ∷ others) counts ends =
    row_lines-append (rows [] 0 source.now (own_ends counts ends)) (all_rows others (drop 1 counts) (later_ends counts ends))
    ∙ ap (λ l. l ++ row_lines (all_rows others (drop 1 counts) (later_ends counts ends)))
    (row_by_row [] 0 source.now (own_ends counts ends) ∙ nothing_before source.now)
    ∙ ap (λ l. lines source.now ++ l) (source_by_source others (drop 1 counts) (later_ends counts ends))

pub lines_listed : LinesAreListed
lines_listed sources = source_by_source sources (counts_of (texts_of sources)) (word_ends (newest_first sources))

-- ## Sources after the last that counts

abbrev pub no_ends : List Bool
no_ends = []

take_none : (n : ℕ) → take n no_ends ≡ []
take_none zero = refl
take_none (suc n) = refl

pub own_none : (counts : List ℕ) → own_ends counts no_ends ≡ []
own_none [] = refl
own_none (count ∷ counts) = take_none count

drop_none : (n : ℕ) → drop n no_ends ≡ []
drop_none zero = refl
drop_none (suc n) = refl

pub later_none : (counts : List ℕ) → later_ends counts [] ≡ []
later_none [] = refl
later_none (count ∷ counts) = drop_none count

-- ## How much of each source is in the join

cut_shorter : (text : List ℕ) → length (up_to_end text) ≤ length text
cut_shorter [] = omega arith
cut_shorter (b ∷ older) = by_tests (is_dead older b) (is_end b) (cut_shorter older)
  where
    by_tests : (dead end : Bool) → length (up_to_end older) ≤ length older → length (if dead then up_to_end older else (if end then b ∷ older else up_to_end older)) ≤ suc (length older)
    by_tests true end e = omega (arith, e)
    by_tests false true e = omega arith
    by_tests false false e = omega (arith, e)

pub prefix_shorter : (text prefix : List ℕ) → before_pause text ≡ Some prefix → length prefix ≤ length text
prefix_shorter [] prefix e = absurd cc
prefix_shorter (b ∷ older) prefix e = by_prefix (before_pause older) (pauses older b) refl (prefix_shorter older prefix) e
  where
    by_prefix : (earlier : Option (List ℕ)) (test : Bool) → before_pause older ≡ earlier → (before_pause older ≡ Some prefix → length prefix ≤ length older) → first_text earlier (if test then Some (up_to_end older) else None) ≡ Some prefix → length prefix ≤ suc (length older)
    by_prefix (Some f) test is before e = let bound = before (is ∙ e) in omega (arith, bound)
    by_prefix None true is before e = let bound = cut_shorter older in let same : length (up_to_end older) ≡ length prefix = some_same e in omega (arith, bound, same)
      where
        some_same : Some (up_to_end older) ≡ Some prefix → length (up_to_end older) ≡ length prefix
        some_same e = ap (λ (o : Option (List ℕ)). length (unwrap_or o [])) e
    by_prefix None false is before e = absurd cc
