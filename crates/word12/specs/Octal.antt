-- Octal digits, as the handbook writes words, addresses and fields.
use Rattle.std.specs.Prelude.{ℕ, ◌+◌, ◌-◌, ◌*◌, ◌/◌, ◌%◌, ◌&&◌, if◌then◌else◌, nat_eq, nat_le, nat_lt, length, List, [], ◌∷◌, Option, None, Some, zero, suc}
use Rattle.word12.specs.declared.sizes.TheConstants.{FIELD}

-- the ASCII code of the last octal digit of a number
abbrev pub octal_digit : ℕ → ℕ
octal_digit n = 0o60 + n % 8

-- the four octal digits of a word, the first of them the most significant
abbrev pub octal4 : ℕ → List ℕ
octal4 word = octal_digit (word / 0o1000) ∷ octal_digit (word / 0o100) ∷ octal_digit (word / 8) ∷ octal_digit word ∷ []

-- the five octal digits of a cell: its field, and its address
abbrev pub octal5 : ℕ → List ℕ
octal5 cell = octal_digit (cell / FIELD) ∷ octal4 (cell % FIELD)

-- the number that octal digits spell after those of a number before them
abbrev pub octal_number_after : ℕ → List ℕ → ℕ
octal_number_after n [] = n
octal_number_after n (digit ∷ digits) = octal_number_after (8 * n + (digit - 0o60)) digits

-- the number that octal digits spell
abbrev pub octal_number : List ℕ → ℕ
octal_number digits = octal_number_after 0 digits

-- the number that octal digits spell after those of a number before them, if each is one
abbrev pub octal_from : ℕ → List ℕ → Option ℕ
octal_from n [] = Some n
octal_from n (digit ∷ digits) =
    if nat_le 0o60 digit && nat_lt digit 0o70 then octal_from (8 * n + (digit - 0o60)) digits else None

-- the number that exactly so many octal digits spell
abbrev pub octal_of : ℕ → List ℕ → Option ℕ
octal_of count digits = if nat_eq (length digits) count then octal_from 0 digits else None

-- octal numbers of so many digits are below
abbrev pub octal_limit : ℕ → ℕ
octal_limit zero = 1
octal_limit (suc count) = 8 * octal_limit count
