-- The words of a line, as parts of it.
use Rattle.std.specs.Prelude.{ℕ, Bool, ◌+◌, ◌-◌, ◌==◌, ◌||◌, not, nat_le, if◌then◌else◌, List, [], ◌∷◌, zero, suc}
use Rattle.debug_lines.specs.Parts.{part}
use Rattle.debug_lines.specs.declared.parts.Part.{Part}

-- a blank is a space or a control character
abbrev pub is_blank : ℕ → Bool
is_blank byte = nat_le byte 0o40

-- a word of its own: `;`, `=`, `#`, `<` and `>`
abbrev pub is_mark : ℕ → Bool
is_mark byte = (byte == 0o73) || ((byte == 0o75) || ((byte == 0o43) || ((byte == 0o74) || (byte == 0o76))))

-- what begins and ends a quote: `"`, and `'`
abbrev pub is_quote : ℕ → Bool
is_quote byte = (byte == 0o42) || (byte == 0o47)

-- what may stand in a word with others
abbrev pub is_plain : ℕ → Bool
is_plain byte = not (is_blank byte || (is_mark byte || is_quote byte))

-- how many plain bytes a text begins with
abbrev pub plain_length : List ℕ → ℕ
plain_length [] = 0
plain_length (byte ∷ bytes) = if is_plain byte then plain_length bytes + 1 else 0

-- how many bytes stand up to the first of a quote's sign, that one with them, or in a text with none
abbrev pub quoted_length : ℕ → List ℕ → ℕ
quoted_length quote [] = 0
quoted_length quote (byte ∷ bytes) = if byte == quote then 1 else quoted_length quote bytes + 1

-- how many bytes the first word has of a text that begins with one: a quote, a mark, or plain bytes
abbrev pub word_length : List ℕ → ℕ
word_length [] = 0
word_length (byte ∷ bytes) =
    if is_quote byte then quoted_length byte bytes + 1
    else if is_mark byte then 1
    else plain_length bytes + 1

-- the words of a text from a place of the line on, after so many bytes that belong to the word before
abbrev pub words_from : ℕ → ℕ → List ℕ → List Part
words_from inside place [] = []
words_from zero place (byte ∷ bytes) =
    if is_blank byte then words_from 0 (place + 1) bytes
    else part place (place + word_length (byte ∷ bytes)) ∷ words_from (word_length (byte ∷ bytes) - 1) (place + 1) bytes
words_from (suc inside) place (byte ∷ bytes) = words_from inside (place + 1) bytes

-- the words of a line
abbrev pub words_of : List ℕ → List Part
words_of line = words_from 0 0 line
