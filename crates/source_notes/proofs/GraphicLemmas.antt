-- Comments are made of graphic characters.
use Rattle.std.proofs.Common.{◌≡◌, ◌⊎◌, inl, inr, ℕ, zero, suc, ◌+◌, ◌-◌, ◌*◌, ◌/◌, ◌%◌, ◌≤◌, ◌<◌, nat_eq, nat_le, nat_lt, Bool, true, false, ◌&&◌, ◌||◌, if◌then◌else◌, Option, Some, None, List, [], ◌∷◌, ◌++◌, refl, ap, ◌∙◌, arith}
use Rattle.std.specs.Prelude.{codes}
use Rattle.std.proofs.lemmas.Bool.{and_from, and_parts, leb-true, eqb-true, le-leb, le-ltb, lt-ltb, or_cases}
use Rattle.word12.specs.declared.sizes.TheConstants.{FIELD}
use Rattle.word12.specs.Octal.{octal_digit, octal4, octal5}
use Rattle.source_notes.specs.Characters.{ascii_text, ascii_unit, characters, in_run, is_graphic, is_sixbit, is_text, packed_text, packed_unit, with_quotes, sixbit_graphic, sixbit_text, sixbit_unit, third, three_from, unit_at, words_of}
use Rattle.source_notes.specs.Laws.{all_graphic, are_graphic}
use Rattle.source_notes.specs.Notes.{above, cells_line, some_cells}
use Rattle.source_notes.specs.Referrers.{callers, referrers}
use Rattle.source_notes.specs.declared.characters.Form.{Form}
use Rattle.source_notes.specs.declared.characters.Form.TheVariants.{Ascii, Packed, Sixbit}

-- ## Lists

abbrev is_visible : ℕ → Bool
is_visible byte = nat_le 0o40 byte && nat_lt byte 0o177

visible : (byte : ℕ) → 0o40 ≤ byte → byte < 0o177 → is_visible byte ≡ true
visible byte least most = and_from (nat_le 0o40 byte) (nat_lt byte 0o177) (le-leb 0o40 byte least) (lt-ltb byte 0o177 most)

graphic_more : (byte : ℕ) (bytes : List ℕ) → is_visible byte ≡ true → are_graphic bytes ≡ true → are_graphic (byte ∷ bytes) ≡ true
graphic_more byte bytes one others = and_from (is_visible byte) (are_graphic bytes) one others

graphic_append : (xs ys : List ℕ) → are_graphic xs ≡ true → are_graphic ys ≡ true → are_graphic (xs ++ ys) ≡ true
graphic_append [] ys first second = second
graphic_append (x ∷ xs) ys first second =
    let parts = and_parts (is_visible x) (are_graphic xs) first in
    graphic_more x (xs ++ ys) parts.0 (graphic_append xs ys parts.1 second)

all_append : (xs ys : List (List ℕ)) → all_graphic xs ≡ true → all_graphic ys ≡ true → all_graphic (xs ++ ys) ≡ true
all_append [] ys first second = second
all_append (x ∷ xs) ys first second =
    let parts = and_parts (are_graphic x) (all_graphic xs) first in
    and_from (are_graphic x) (all_graphic (xs ++ ys)) parts.0 (all_append xs ys parts.1 second)

-- ## Cells

digit_visible : (n : ℕ) → is_visible (octal_digit n) ≡ true
digit_visible n = visible (octal_digit n) (omega arith) (omega arith)

graphic_digits : (n : ℕ) → are_graphic (octal4 n) ≡ true
graphic_digits n =
    graphic_more (octal_digit (n / 0o1000)) (octal_digit (n / 0o100) ∷ octal_digit (n / 8) ∷ octal_digit n ∷ []) (digit_visible (n / 0o1000))
    (graphic_more (octal_digit (n / 0o100)) (octal_digit (n / 8) ∷ octal_digit n ∷ []) (digit_visible (n / 0o100))
    (graphic_more (octal_digit (n / 8)) (octal_digit n ∷ []) (digit_visible (n / 8)) (graphic_more (octal_digit n) [] (digit_visible n) refl)))

graphic_cell : (cell : ℕ) → are_graphic (octal5 cell) ≡ true
graphic_cell cell = graphic_more (octal_digit (cell / FIELD)) (octal4 (cell % FIELD)) (digit_visible (cell / FIELD)) (graphic_digits (cell % FIELD))

graphic_cells : (count : ℕ) (cells : List ℕ) → are_graphic (some_cells count cells) ≡ true
graphic_cells zero [] = refl
graphic_cells (suc count) [] = refl
graphic_cells zero (cell ∷ cells) = refl
graphic_cells (suc count) (cell ∷ cells) =
    graphic_more 0o40 (octal5 cell ++ some_cells count cells) refl
    (graphic_append (octal5 cell) (some_cells count cells) (graphic_cell cell) (graphic_cells count cells))

graphic_line : (words cells : List ℕ) → are_graphic words ≡ true → all_graphic (cells_line words cells) ≡ true
graphic_line words [] visible = refl
graphic_line words (cell ∷ cells) visible =
    and_from (are_graphic (words ++ some_cells 8 (cell ∷ cells))) true
    (graphic_append words (some_cells 8 (cell ∷ cells)) visible (graphic_cells 8 (cell ∷ cells))) refl

pub graphic_above : (words : ℕ → Option ℕ) (is_code : ℕ → Bool) (cell : ℕ) → all_graphic (above words is_code cell) ≡ true
graphic_above words is_code cell =
    all_append (cells_line (codes " SUBROUTINE, CALLED FROM") (callers words is_code cell))
    (cells_line (codes " FROM") (referrers words is_code cell))
    (graphic_line (codes " SUBROUTINE, CALLED FROM") (callers words is_code cell) refl)
    (graphic_line (codes " FROM") (referrers words is_code cell) refl)

-- ## Characters

-- one of three in a run is a unit
has_unit : (is_unit : ℕ → Bool) (size cell : ℕ) → in_run is_unit size cell ≡ true → is_unit cell ≡ true
has_unit is_unit size cell run =
    elim (or_cases (three_from is_unit size cell) _ run) [
      | inl first ↦ (all_three cell first).0
      | inr later ↦ elim (or_cases (nat_le size (cell % FIELD) && three_from is_unit size (cell - size)) _ later) [
        | inl second ↦
            let parts = and_parts (nat_le size (cell % FIELD)) (three_from is_unit size (cell - size)) second in
            let within = leb-true size (cell % FIELD) parts.0 in
            ap is_unit (back cell size within) ∙ (all_three (cell - size) parts.1).1
        | inr last ↦
            let parts = and_parts (nat_le (2 * size) (cell % FIELD)) (three_from is_unit size (cell - 2 * size)) last in
            let within = leb-true (2 * size) (cell % FIELD) parts.0 in
            ap is_unit (back cell (2 * size) within) ∙ (all_three (cell - 2 * size) parts.1).2
      ]
    ]
  where
    back : (cell count : ℕ) → count ≤ cell % FIELD → cell ≡ cell - count + count
    back cell count within = omega (arith, within)

    all_three : (at : ℕ) → three_from is_unit size at ≡ true → (is_unit at ≡ true) × (is_unit (at + size) ≡ true) × (is_unit (at + 2 * size) ≡ true)
    all_three at three =
        let whole = and_parts (nat_lt (at % FIELD + 2 * size) FIELD) (is_unit at && (is_unit (at + size) && is_unit (at + 2 * size))) three in
        let units = and_parts (is_unit at) (is_unit (at + size) && is_unit (at + 2 * size)) whole.1 in
        let others = and_parts (is_unit (at + size)) (is_unit (at + 2 * size)) units.1 in
        (units.0, others.0, others.1)

graphic_quoted : (bytes : List ℕ) → are_graphic bytes ≡ true → are_graphic (with_quotes bytes) ≡ true
graphic_quoted bytes visible = graphic_append bytes (0o47 ∷ []) visible refl

graphic_ascii : (word : Option ℕ) → ascii_unit word ≡ true → are_graphic (ascii_text word) ≡ true
graphic_ascii None unit = refl
graphic_ascii (Some word) unit =
    graphic_quoted (word % 0o200 ∷ []) (graphic_more (word % 0o200) [] (and_parts (nat_lt word 0o400) (is_graphic word) unit).1 refl)

graphic_packed : (first second : Option ℕ) → packed_unit first second ≡ true → are_graphic (packed_text first second) ≡ true
graphic_packed None second unit = refl
graphic_packed (Some first) None unit = refl
graphic_packed (Some first) (Some second) unit =
    let alike = and_parts (is_graphic (first % 0o400) && (is_graphic (second % 0o400) && is_graphic (third first second))) _ unit in
    let whole = and_parts (is_graphic (first % 0o400)) (is_graphic (second % 0o400) && is_graphic (third first second)) alike.0 in
    let others = and_parts (is_graphic (second % 0o400)) (is_graphic (third first second)) whole.1 in
    graphic_quoted (first % 0o200 ∷ second % 0o200 ∷ third first second % 0o200 ∷ [])
    (graphic_more (first % 0o200) (second % 0o200 ∷ third first second % 0o200 ∷ []) (ap is_visible (low first) ∙ whole.0)
    (graphic_more (second % 0o200) (third first second % 0o200 ∷ []) (ap is_visible (low second) ∙ others.0)
    (graphic_more (third first second % 0o200) [] others.1 refl)))
  where
    low : (word : ℕ) → word % 0o200 ≡ word % 0o400 % 0o200
    low word = omega arith

-- where a text's six-bit characters are
sixbit_range : (code : ℕ) → is_sixbit code ≡ true → ((1 ≤ code) × (code ≤ 0o32)) ⊎ ((0o40 ≤ code) × (code ≤ 0o77))
sixbit_range code is =
    elim (or_cases (nat_le 1 code && nat_le code 0o32) _ is) [
      | inl letter ↦ let parts = and_parts (nat_le 1 code) (nat_le code 0o32) letter in inl (leb-true 1 code parts.0, leb-true code 0o32 parts.1)
      | inr other ↦ elim (or_cases (nat_le 0o60 code && nat_le code 0o71) _ other) [
        | inl digit ↦
            let parts = and_parts (nat_le 0o60 code) (nat_le code 0o71) digit in
            let least = leb-true 0o60 code parts.0 in
            let most = leb-true code 0o71 parts.1 in
            inr (omega (arith, least), omega (arith, most))
        | inr sign ↦ inr (signs sign)
      ]
    ]
  where
    this : (k : ℕ) → 0o40 ≤ k → k ≤ 0o77 → nat_eq code k ≡ true → (0o40 ≤ code) × (code ≤ 0o77)
    this k least most is = let same = eqb-true code k is in (omega (arith, same, least), omega (arith, same, most))

    signs : (nat_eq code 0o40 || (nat_eq code 0o54 || (nat_eq code 0o55 || (nat_eq code 0o56 || (nat_eq code 0o77 || nat_eq code 0o41))))) ≡ true
        → (0o40 ≤ code) × (code ≤ 0o77)
    signs sign = elim (or_cases (nat_eq code 0o40) _ sign) [
      | inl is ↦ this 0o40 (omega arith) (omega arith) is
      | inr sign ↦ elim (or_cases (nat_eq code 0o54) _ sign) [
        | inl is ↦ this 0o54 (omega arith) (omega arith) is
        | inr sign ↦ elim (or_cases (nat_eq code 0o55) _ sign) [
          | inl is ↦ this 0o55 (omega arith) (omega arith) is
          | inr sign ↦ elim (or_cases (nat_eq code 0o56) _ sign) [
            | inl is ↦ this 0o56 (omega arith) (omega arith) is
            | inr sign ↦ elim (or_cases (nat_eq code 0o77) _ sign) [
              | inl is ↦ this 0o77 (omega arith) (omega arith) is
              | inr is ↦ this 0o41 (omega arith) (omega arith) is
            ]
          ]
        ]
      ]
    ]

sixbit_visible : (code : ℕ) → is_sixbit code ≡ true → is_visible (sixbit_graphic code) ≡ true
sixbit_visible code is = elim (sixbit_range code is) [
  | inl letter ↦ ap is_visible (low (letter.1)) ∙ visible (code + 0o100) (omega arith) (omega (arith, letter.1))
  | inr other ↦ ap is_visible (high (other.0)) ∙ visible code other.0 (omega (arith, other.1))
]
  where
    low : code ≤ 0o32 → sixbit_graphic code ≡ code + 0o100
    low most = ap (λ (b : Bool). if b then code + 0o100 else code) (lt-ltb code 0o40 (omega (arith, most)))

    high : 0o40 ≤ code → sixbit_graphic code ≡ code
    high least = ap (λ (b : Bool). if b then code + 0o100 else code) (le-ltb code 0o40 least)

graphic_sixbit : (word : Option ℕ) → sixbit_unit word ≡ true → are_graphic (sixbit_text word) ≡ true
graphic_sixbit None unit = refl
graphic_sixbit (Some word) unit =
    let parts = and_parts (is_sixbit (word / 0o100)) (is_sixbit (word % 0o100)) unit in
    graphic_quoted (sixbit_graphic (word / 0o100) ∷ sixbit_graphic (word % 0o100) ∷ [])
    (graphic_more (sixbit_graphic (word / 0o100)) (sixbit_graphic (word % 0o100) ∷ []) (sixbit_visible (word / 0o100) parts.0)
    (graphic_more (sixbit_graphic (word % 0o100)) [] (sixbit_visible (word % 0o100) parts.1) refl))

-- one of two texts, the first where a test says so
either : (test : Bool) (xs ys : List ℕ) → (test ≡ true → are_graphic xs ≡ true) → are_graphic ys ≡ true → are_graphic (if test then xs else ys) ≡ true
either true xs ys first second = first refl
either false xs ys first second = second

unit_of : (form : Form) (datum : ℕ → Option ℕ) (cell : ℕ) → is_text form datum cell ≡ true → unit_at form datum cell ≡ true
unfolding is_text
unit_of form datum cell text = has_unit (unit_at form datum) (words_of form) cell text

pub graphic_characters : (datum : ℕ → Option ℕ) (cell : ℕ) → are_graphic (characters datum cell) ≡ true
graphic_characters datum cell =
    either (is_text Ascii datum cell) _ _ (λ text. graphic_ascii (datum cell) (unit_of Ascii datum cell text))
    (either (nat_eq (cell % 2) 0 && is_text Packed datum cell) _ _
    (λ both. graphic_packed (datum cell) (datum (cell + 1)) (unit_of Packed datum cell
    (and_parts (nat_eq (cell % 2) 0) (is_text Packed datum cell) both).1))
    (either (nat_eq (cell % 2) 1 && is_text Packed datum (cell - 1)) [] _ (λ both. refl)
    (either (is_text Sixbit datum cell) _ [] (λ text. graphic_sixbit (datum cell) (unit_of Sixbit datum cell text)) refl)))
