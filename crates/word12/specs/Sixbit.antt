-- Sixbit codes, as the OS/8 Software Support Manual packs two of them in a word of a file's name; names of symbols are numbers made of
-- them too.
use Rattle.std.specs.Prelude.{ℕ, Bool, ◌+◌, ◌-◌, ◌*◌, ◌&&◌, nat_le, if◌then◌else◌, Option, Some, None, unwrap_or, List, slice_index}

-- a capital letter, A (0101) to Z (0132) in ASCII
abbrev pub is_letter : ℕ → Bool
is_letter character = nat_le 0o101 character && nat_le character 0o132

-- a digit, 0 (0060) to 9 (0071)
abbrev pub is_digit : ℕ → Bool
is_digit character = nat_le 0o60 character && nat_le character 0o71

-- a letter's code is its ASCII code without 0100, a digit's its ASCII code; other characters have none in a name
abbrev pub sixbit_code : ℕ → Option ℕ
sixbit_code character = if is_letter character then Some (character - 0o100) else if is_digit character then Some character else None

-- the sixbit code of a character of a text, or 0 past its end
abbrev pub code_at : List ℕ → ℕ → ℕ
code_at text place = unwrap_or (sixbit_code (slice_index text place)) 0

-- a name's first six characters, as the digits of a number to the base 64
abbrev pub name_number : List ℕ → ℕ
name_number text =
    0o10000000000 * code_at text 0 + 0o100000000 * code_at text 1 + 0o1000000 * code_at text 2 + 0o10000 * code_at text 3
    + 0o100 * code_at text 4 + code_at text 5
