-- The digest of a line of an index: its last column, 32 hexadecimal digits.
use Rattle.std.specs.Prelude.{ℕ, ◌+◌, ◌*◌, ◌-◌, ◌%◌, ◌^◌, nat_lt, if◌then◌else◌, List, [], ◌∷◌, drop, length}

-- the value of a digit, 0 to 9 or a to f
abbrev pub digit_value : ℕ → ℕ
digit_value digit = if nat_lt digit 0o72 then digit % 16 else (digit % 16 + 9) % 16

-- a number of at most 32 hexadecimal digits with one more; of 33 digits the first is left out
abbrev pub with_digit : ℕ → ℕ → ℕ
with_digit number digit = (number * 16 % 16 ^ 32 + digit_value digit) % 16 ^ 32

-- a number with further digits
abbrev pub number_after : ℕ → List ℕ → ℕ
number_after number [] = number
number_after number (digit ∷ digits) = number_after (with_digit number digit) digits

-- the number that the last 32 bytes of a line are
abbrev pub digest_of : List ℕ → ℕ
digest_of line = number_after 0 (drop (length line - 32) line)
