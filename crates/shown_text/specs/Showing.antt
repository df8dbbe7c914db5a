-- Bytes as they are shown in a line, or in one column of it (this project's profile).
use Rattle.std.specs.Prelude.{ℕ, ◌+◌, ◌/◌, nat_eq, nat_le, nat_lt, not, Bool, ◌&&◌, if◌then◌else◌, List, [], ◌∷◌, ◌++◌}
use Rattle.word12.specs.Octal.{octal_digit}
use Rattle.shown_text.specs.declared.bytes.TheConstants.{BLANK}

-- a character of ASCII from the first that is given up to the last graphic one, other than a backslash
abbrev pub is_plain : ℕ → ℕ → Bool
is_plain first byte = nat_le first byte && (nat_lt byte 0o177 && not (nat_eq byte 0o134))

-- a backslash and three octal digits
abbrev pub escape : ℕ → List ℕ
escape byte = 0o134 ∷ octal_digit (byte / 0o100) ∷ octal_digit (byte / 8) ∷ octal_digit byte ∷ []

-- a byte as it is, or escaped
abbrev pub shown_byte : ℕ → ℕ → List ℕ
shown_byte first byte = if is_plain first byte then byte ∷ [] else escape byte

abbrev pub text_from : ℕ → List ℕ → List ℕ
text_from first [] = []
text_from first (byte ∷ bytes) = shown_byte first byte ++ text_from first bytes

-- in a line blanks and graphic characters stand as they are
abbrev pub shown_text : List ℕ → List ℕ
shown_text bytes = text_from BLANK bytes

-- in a column graphic characters alone do
abbrev pub with_quotes : List ℕ → List ℕ
with_quotes bytes = text_from (BLANK + 1) bytes
