-- The words of a listing.
use Rattle.std.proofs.Common.{◌≡◌, ℕ, ◌+◌, ◌≤◌, Bool, true, false, ◌&&◌, if◌then◌else◌, Option, Some, None, Result, Ok, Err, length, take, drop, replicate, List, [], ◌∷◌, ◌++◌, refl, ap, sym, ◌∙◌, length-append, length-drop, arith}
use Rattle.std.proofs.lemmas.List.{take-append-drop, length-replicate}
use Rattle.std.specs.Borrow.{Bor}
use Rattle.pal_lex.specs.Text.{ends_statement}
use Rattle.pal_lex.specs.Statements.{statements}
use Rattle.pal_faults.specs.declared.lexical.LexFault.{LexFault}
use Rattle.pal_lex.specs.declared.phrases.Body.{Body}
use Rattle.pal_lex.specs.declared.phrases.Body.TheVariants.{Nothing, Origin, Define, Decimal, Octal, Pause, Field, Reference, Word}
use Rattle.pal_lex.specs.declared.phrases.Operation.{Operation}
use Rattle.pal_lex.specs.declared.phrases.Statement.{Statement}
use Rattle.pal_asm.specs.Expressions.{Meanings, value_of}
use Rattle.pal_asm.specs.Places.{Source, is_word, place_at, values}
use Rattle.pal_asm.specs.Words.{offset_of, offset_to, with_offset, body_word, cell_at, with_pair, word_values, pairs_by, pairs_of}
use Rattle.pal_asm.specs.Faults.{first_of, at_line, first_order, no_offset, out_of_reach, terms_fault, word_fault, words_fault, no_end, no_word, fault_of}
use Rattle.host_sources.specs.Sources.{newest_first}
use Rattle.host_sources.specs.Laws.{FineTermsHaveValue}
use Rattle.pal_lex.proofs.LawLemmas.{one_more, newest}
use Rattle.host_sources.proofs.NameLemmas.{first_none, line_none}
use Rattle.source_listing.specs.Rows.{Row, is_newest_word, ends_word}
use Rattle.source_listing.specs.Listings.{rows_of}
use Rattle.source_listing.specs.References.{spot_by}
use Rattle.source_listing.specs.Laws.{words_at, word_count, lines, all_lines, row_spots, line_spots, word_spots, end_spots, WordsAreListed}
use Rattle.source_listing.specs.declared.spots.Spot.{Spot}
use Rattle.source_listing.proofs.RowLemmas.{lines_listed}
use Rattle.source_listing.proofs.StandLemmas.{length-rows, length-line_spots, words_standing}

-- ## As many words as end

reached : (place : ℕ) (operation : Operation) (indirect : Bool) (address : Option ℕ) (v : ℕ) → address ≡ Some v → out_of_reach place address ≡ None
    → (w : ℕ) × (with_offset operation indirect (offset_to place address) ≡ Some w)
reached place operation indirect address v is fine = by_offset (offset_of place v) refl (sym (ap (out_of_reach place) is) ∙ fine)
  where
    by_offset : (offset : Option ℕ) → offset_of place v ≡ offset → no_offset (offset_of place v) ≡ None → (w : ℕ) × (with_offset operation indirect (offset_to place address) ≡ Some w)
    by_offset (Some o) e none = (_, ap (λ a. with_offset operation indirect (offset_to place a)) is ∙ ap (with_offset operation indirect) e)
    by_offset None e none = absurd_some (sym (ap no_offset e) ∙ none)
      where
        absurd_some : {A B : Type 0} {x : A} → Some x ≡ None → B
        absurd_some e = absurd cc

-- a word with no fault has a word, and nothing else has one
has_its_word : FineTermsHaveValue → (names : Meanings) (place : ℕ) (body : Body) → word_fault names place body ≡ None → (is_word body ≡ true → (w : ℕ) × (body_word names place body ≡ Some w)) × (is_word body ≡ false → body_word names place body ≡ None)
has_its_word valued names place Nothing e = (λ t. absurd cc, λ f. refl)
has_its_word valued names place (Origin x) e = (λ t. absurd cc, λ f. refl)
has_its_word valued names place (Define name x) e = (λ t. absurd cc, λ f. refl)
has_its_word valued names place Decimal e = (λ t. absurd cc, λ f. refl)
has_its_word valued names place Octal e = (λ t. absurd cc, λ f. refl)
has_its_word valued names place Pause e = (λ t. absurd cc, λ f. refl)
has_its_word valued names place (Field x) e = (λ t. absurd cc, λ f. refl)
has_its_word valued names place (Reference operation indirect None) e = (λ t. reached place operation indirect (Some 0) 0 refl e, λ f. absurd cc)
has_its_word valued names place (Reference operation indirect (Some x)) e =
    let faults = first_none (terms_fault names place x) (out_of_reach place (value_of names place x)) e in
    let some = valued names place x faults.0 in
    (λ t. reached place operation indirect (value_of names place x) some.0 some.1 faults.1, λ f. absurd cc)
has_its_word valued names place (Word x) e = (λ t. valued names place x e, λ f. absurd cc)

with_pair_by : (word : Bool) (pairs : List (ℕ × ℕ)) (cell : ℕ) (made : Option ℕ) (spot : Spot) → (word ≡ true → (w : ℕ) × (made ≡ Some w)) × (word ≡ false → made ≡ None)
    → length (with_pair pairs cell made) ≡ length pairs + length (if word then spot ∷ [] else [])
with_pair_by true pairs cell made spot has =
    let some = has.0 refl in
    ap (λ m. length (with_pair pairs cell m)) some.1 ∙ length-append pairs ((cell, some.0) ∷ [])
with_pair_by false pairs cell made spot has = ap (λ m. length (with_pair pairs cell m)) (has.1 refl) ∙ omega arith

newest_pairs : FineTermsHaveValue → (last : Meanings) (spot : Spot) (ends : Bool) (s : Result Statement LexFault) (older : Source) → words_fault last (if ends then s ∷ older else older) ≡ None
    → (words_fault last older ≡ None)
    × (length (pairs_by last (if ends then s ∷ older else older)) ≡ length (pairs_by last older) + length (if ends && is_newest_word (if ends then s ∷ older else older) then spot ∷ [] else []))
newest_pairs valued last spot true (Ok s) older none =
    let faults = first_none (words_fault last older) (at_line s.line (word_fault (word_values last s.tags older) (place_at older) s.body)) none in (
      faults.0,
      with_pair_by (is_word s.body) (pairs_by last older) (cell_at older) (body_word (word_values last s.tags older) (place_at older) s.body) spot
          (has_its_word valued (word_values last s.tags older) (place_at older) s.body (line_none s.line (word_fault (word_values last s.tags older) (place_at older) s.body) faults.1)),
    )
newest_pairs valued last spot true (Err f) older none = (none, omega arith)
newest_pairs valued last spot false s older none = (none, omega arith)

nothing_paired : (last : Meanings) → pairs_by last (statements []) ≡ []
unfolding statements
nothing_paired last = refl

as_many : FineTermsHaveValue → (last : Meanings) (spot : ℕ → Spot) (text : List ℕ) → words_fault last (statements text) ≡ None → length (end_spots spot text) ≡ length (pairs_by last (statements text))
as_many valued last spot [] none = sym (ap length (nothing_paired last))
as_many valued last spot (b ∷ older) none =
    let here = spot (length older) in
    let grown = newest_pairs valued last here (ends_statement older b) (newest older b) (statements older) (sym (ap (words_fault last) (one_more b older)) ∙ none) in
    length-append (end_spots spot older) (if ends_word older b then here ∷ [] else [])
    ∙ ap (λ n. n + length (if ends_word older b then here ∷ [] else [])) (as_many valued last spot older grown.0)
    ∙ ap (λ l. length (pairs_by last (statements older)) + length (if ends_statement older b && is_newest_word l then here ∷ [] else [])) (one_more b older)
    ∙ sym grown.1 ∙ sym (ap (λ l. length (pairs_by last l)) (one_more b older))

-- ## As many as stand at the lines

length-word_spots : (l : List Row) (spots : List Spot) → length l ≡ length spots → length (word_spots l spots) ≡ word_count l
length-word_spots [] spots size = refl
length-word_spots (row ∷ l) [] size = absurd (omega (arith, size))
length-word_spots (row ∷ l) (spot ∷ spots) size =
    length-append (replicate row.words spot) (word_spots l spots) ∙ ap (λ n. n + length (word_spots l spots)) (length-replicate row.words spot)
    ∙ ap (λ n. row.words + n) (length-word_spots l spots (omega (arith, size)))

length-row_spots : (number : ℕ) (sources : List (Bor (List ℕ))) → length (row_spots number sources) ≡ length (all_lines sources)
length-row_spots number [] = refl
length-row_spots number (source ∷ others) =
    length-append (line_spots number 1 (lines source.now)) (row_spots (number + 1) others)
    ∙ ap (λ n. n + length (row_spots (number + 1) others)) (length-line_spots number 1 (lines source.now))
    ∙ ap (λ n. length (lines source.now) + n) (length-row_spots (number + 1) others) ∙ sym (length-append (lines source.now) (all_lines others))

-- ## All of them

spread : (rows : List Row) (pairs : List (ℕ × ℕ)) → length pairs ≤ word_count rows → words_at rows pairs ≡ pairs
spread [] [] size = refl
spread [] (pair ∷ pairs) size = absurd (omega (arith, size))
spread (row ∷ rows) pairs size =
    ap (λ l. take row.words pairs ++ l) (spread rows (drop row.words pairs) (let dropped = length-drop row.words pairs in omega (arith, dropped, size)))
    ∙ take-append-drop row.words pairs

no_words_fault : (text : List ℕ) → fault_of text ≡ None → words_fault (values (statements text)) (statements text) ≡ None
no_words_fault text none =
    let source = statements text in
    let words = words_fault (values source) source in
    (first_none words (no_word source)
    (first_none (no_end text) (first_of words (no_word source)) (first_none (first_order source) (first_of (no_end text) (first_of words (no_word source))) none).1).1).0

pub words_listed : FineTermsHaveValue → WordsAreListed
words_listed valued sources none =
    let join = newest_first sources in
    let rows = rows_of sources in
    let spots = row_spots 1 sources in
    let size = sym (length-rows rows) ∙ ap length (lines_listed sources) ∙ sym (length-row_spots 1 sources) in
    let count : word_count rows ≡ length (pairs_of join) =
    sym (length-word_spots rows spots size) ∙ ap length (words_standing sources) ∙ as_many valued (values (statements join)) (spot_by sources) join (no_words_fault join none) in
    (spread rows (pairs_of join) (omega (arith, count)), count)
