-- How any name is spelled (OS/8 Software Support Manual for the codes; the escape is this project's profile).
use Rattle.std.specs.Prelude.{ℕ, ◌+◌, ◌/◌, ◌%◌, nat_eq, nat_le, Bool, true, false, ◌&&◌, if◌then◌else◌, List, [], ◌∷◌, ◌++◌}
use Rattle.word12.specs.Octal.{octal_digit}
use Rattle.os8_dir.specs.Names.{words_of_name}

abbrev pub is_letter_code : ℕ → Bool
is_letter_code code = nat_le 1 code && nat_le code 26

abbrev pub is_digit_code : ℕ → Bool
is_digit_code code = nat_le 0o60 code && nat_le code 0o71

-- a letter's and a digit's code as these, each other code as `_` and two octal digits
abbrev pub spelled_code : ℕ → List ℕ
spelled_code code =
    if is_letter_code code then (code + 0o100) ∷ []
    else if is_digit_code code then code ∷ []
    else 0o137 ∷ octal_digit (code / 8) ∷ octal_digit code ∷ []

abbrev pub all_zero : List ℕ → Bool
all_zero [] = true
all_zero (code ∷ codes) = if nat_eq code 0 then all_zero codes else false

-- codes, but for the zeros after the last that is none
abbrev pub spelled_codes : List ℕ → List ℕ
spelled_codes [] = []
spelled_codes (code ∷ codes) = if all_zero (code ∷ codes) then [] else spelled_code code ++ spelled_codes codes

-- an extension with its dot, if there is one
abbrev pub with_dot : List ℕ → List ℕ
with_dot codes = if all_zero codes then [] else 0o56 ∷ spelled_codes codes

-- the two codes of a word
abbrev pub two_codes : ℕ → List ℕ
two_codes word = word / 0o100 ∷ word % 0o100 ∷ []

-- the text of a name's four words
abbrev pub text_of_words : List ℕ → List ℕ
text_of_words (a ∷ b ∷ c ∷ extension ∷ []) = spelled_codes (two_codes a ++ two_codes b ++ two_codes c) ++ with_dot (two_codes extension)
text_of_words words = []

-- the text of a name
unfoldable pub text_of : ℕ → List ℕ
text_of name = text_of_words (words_of_name name)
