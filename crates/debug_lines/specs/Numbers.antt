-- Octal and decimal numbers of a line.
use Rattle.std.specs.Prelude.{ℕ, Bool, ◌+◌, ◌-◌, ◌*◌, ◌&&◌, not, nat_le, nat_lt, if◌then◌else◌, List, [], ◌∷◌, length, Option, None, Some, Result, Ok, Err}
use Rattle.std.specs.List.{list_all}
use Rattle.word12.specs.Octal.{octal_of}
use Rattle.word12.specs.Sixbit.{is_digit}
use Rattle.debug_lines.specs.Parts.{text_of, refusal_of}
use Rattle.debug_lines.specs.declared.parts.Part.{Part}
use Rattle.debug_lines.specs.declared.faults.Refusal.{Refusal}
use Rattle.debug_lines.specs.declared.faults.Refused.{Refused}
use Rattle.debug_lines.specs.declared.faults.Refused.TheVariants.{NotOctal, NotDecimal, TooLarge}

-- a line is refused at the head of a part
abbrev pub refusal_at : Refused → Part → Refusal
refusal_at why part = refusal_of why part.start

abbrev pub is_octal_digit : ℕ → Bool
is_octal_digit byte = nat_le 0o60 byte && nat_lt byte 0o70

-- a text of too many digits is too large a number, and another long one is none
abbrev pub why_longer : List ℕ → Refused
why_longer text = if list_all is_octal_digit text then TooLarge else NotOctal

-- a number that may be too large
abbrev pub up_to : ℕ → Part → Option ℕ → Result ℕ Refusal
up_to most part None = Err (refusal_at NotOctal part)
up_to most part (Some number) = if nat_le number most then Ok number else Err (refusal_at TooLarge part)

-- the octal number of a text of one digit or more
abbrev pub octal_number : ℕ → ℕ → Part → List ℕ → Result ℕ Refusal
octal_number digits most part [] = Err (refusal_at NotOctal part)
octal_number digits most part (byte ∷ bytes) =
    if nat_le (length (byte ∷ bytes)) digits then up_to most part (octal_of (length (byte ∷ bytes)) (byte ∷ bytes))
    else Err (refusal_at (why_longer (byte ∷ bytes)) part)

-- an octal number of so many digits at most, and up to this one
abbrev pub octal_in : ℕ → ℕ → List ℕ → Part → Result ℕ Refusal
octal_in digits most line part = octal_number digits most part (text_of line part)

-- a word: one to four octal digits
abbrev pub word_in : List ℕ → Part → Result ℕ Refusal
word_in line part = octal_in 4 0o7777 line part

-- a cell: one to five octal digits
abbrev pub number_of_cell : List ℕ → Part → Result ℕ Refusal
number_of_cell line part = octal_in 5 0o77777 line part

-- the number that decimal digits go on to
abbrev pub decimal_after : ℕ → List ℕ → ℕ
decimal_after number [] = number
decimal_after number (digit ∷ digits) = decimal_after (10 * number + (digit - 0o60)) digits

-- the most digits of a decimal number
abbrev pub most_digits : ℕ
most_digits = 15

abbrev pub decimal_number : Part → List ℕ → Result ℕ Refusal
decimal_number part [] = Err (refusal_at NotDecimal part)
decimal_number part (byte ∷ bytes) =
    if not (list_all is_digit (byte ∷ bytes)) then Err (refusal_at NotDecimal part)
    else if nat_le (length (byte ∷ bytes)) most_digits then Ok (decimal_after 0 (byte ∷ bytes)) else Err (refusal_at TooLarge part)

-- a decimal number of one to fifteen digits
abbrev pub decimal_in : List ℕ → Part → Result ℕ Refusal
decimal_in line part = decimal_number part (text_of line part)
