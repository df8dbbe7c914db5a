-- The three lines of a cell.
use Rattle.std.proofs.Common.{ℕ, ◌/◌, ◌%◌, ◌<◌, length, suc, List, [], ◌∷◌, ◌++◌, refl, subst, arith}
use Rattle.word12.specs.declared.sizes.TheConstants.{CORE, FIELD}
use Rattle.word12.specs.Octal.{octal_digit, octal4}
use Rattle.pal_lex.specs.Text.{text_from}
use Rattle.pal8_lex.specs.Pieces.{Piece}
use Rattle.pal8_lex.specs.declared.tokens.Kind.TheVariants as kind
use Rattle.pal8_lex.specs.declared.rules.Shape.TheVariants as shape
use Rattle.tape_source.specs.Lines.{field_line, line_end, origin_line}
use Rattle.pal8_asm.specs.Sources.{Source}
use Rattle.pal8_source.proofs.DigitLemmas.{digit_value, octal, word_value}
use Rattle.pal8_source.proofs.LexLemmas.{EndsNumber, Reaches, TakesNumber, begins_number, ends_number, goes_on, lengthens_number, run}

-- `FIELD` and a blank from a place on
abbrev pub field_pieces : ℕ → List Piece
field_pieces at =
    record { shape = shape.Blank; first = (0o40, suc (suc (suc (suc (suc at))))); others = [] }
    ∷ run (0o106, at) ((0o104, suc (suc (suc (suc at)))) ∷ (0o114, suc (suc (suc at))) ∷ (0o105, suc (suc at)) ∷ (0o111, suc at) ∷ []) ∷ []

-- `*` at a place
abbrev pub star_pieces : ℕ → List Piece
star_pieces at = record { shape = shape.Mark kind.Star; first = (0o52, at); others = [] } ∷ []

at_start : TakesNumber []
at_start = record { still = λ c. refl; begins = λ c. refl; goes = λ n c. refl }

after_star : (at : ℕ) → TakesNumber (star_pieces at)
after_star at = record { still = λ c. refl; begins = λ c. refl; goes = λ n c. refl }

after_field : (at : ℕ) → TakesNumber (field_pieces at)
after_field at = record { still = λ c. refl; begins = λ c. refl; goes = λ n c. refl }

field_begins : (text : List ℕ) (s : Source) → Reaches text [] s
    → Reaches (0o40 ∷ 0o104 ∷ 0o114 ∷ 0o105 ∷ 0o111 ∷ 0o106 ∷ text) (field_pieces (length text)) s
field_begins text s is =
    let f = goes_on text 0o106 [] s refl refl refl is in
    let i = goes_on (0o106 ∷ text) 0o111 (run (0o106, length text) [] ∷ []) s refl refl refl f in
    let e = goes_on (0o111 ∷ 0o106 ∷ text) 0o105 _ s refl refl refl i in
    let l = goes_on (0o105 ∷ 0o111 ∷ 0o106 ∷ text) 0o114 _ s refl refl refl e in
    let d = goes_on (0o114 ∷ 0o105 ∷ 0o111 ∷ 0o106 ∷ text) 0o104 _ s refl refl refl l in
    goes_on (0o104 ∷ 0o114 ∷ 0o105 ∷ 0o111 ∷ 0o106 ∷ text) 0o40 _ s refl refl refl d

-- four octal digits after pieces, and the end of the line
four_end : (text : List ℕ) (p : List Piece) (s : Source) (w : ℕ) → w < 4096 → TakesNumber p → Reaches text p s
    → EndsNumber (text_from text (octal4 w ++ line_end)) p w s
four_end text p s w small takes is =
    let a = begins_number text (octal_digit (w / 512)) p s (octal (w / 512)) takes is in
    let b = lengthens_number _ (octal_digit (w / 64)) _ p s (octal (w / 64)) takes a in
    let c = lengthens_number _ (octal_digit (w / 8)) _ p s (octal (w / 8)) takes b in
    let d = lengthens_number _ (octal_digit w) _ p s (octal w) takes c in
    subst (λ v. EndsNumber (text_from text (octal4 w ++ line_end)) p v s) (word_value w small) (ends_number _ _ p s d)

pub field_ends : (text : List ℕ) (s : Source) (cell : ℕ) → cell < CORE → Reaches text [] s
    → EndsNumber (text_from text (field_line cell)) (field_pieces (length text)) (cell / FIELD) s
field_ends text s cell small is =
    let p = field_pieces (length text) in
    let d = begins_number _ (octal_digit (cell / FIELD)) p s (octal (cell / FIELD)) (after_field (length text)) (field_begins text s is) in
    subst (λ v. EndsNumber (text_from text (field_line cell)) p v s) (digit_value (cell / FIELD) (omega (arith, small))) (ends_number _ _ p s d)

pub origin_ends : (text : List ℕ) (s : Source) (cell : ℕ) → Reaches text [] s
    → EndsNumber (text_from text (origin_line cell)) (star_pieces (length text)) (cell % FIELD) s
origin_ends text s cell is =
    let star = goes_on text 0o52 [] s refl refl refl is in
    four_end (0o52 ∷ text) (star_pieces (length text)) s (cell % FIELD) (omega arith) (after_star (length text)) star

pub word_ends : (text : List ℕ) (s : Source) (word : ℕ) → word < 4096 → Reaches text [] s
    → EndsNumber (text_from text (octal4 word ++ line_end)) [] word s
word_ends text s word small is = four_end text [] s word small at_start is
