-- What holds of texts as they are shown.
use Rattle.std.specs.Prelude.{◌≡◌, ℕ, ◌+◌, ◌<◌, nat_le, nat_lt, Bool, true, ◌&&◌, List, [], ◌∷◌}
use Rattle.shown_text.specs.Showing.{is_plain, shown_text, with_quotes}
use Rattle.shown_text.specs.declared.bytes.TheConstants.{BLANK}

-- a character of ASCII from the first that is given up to the last graphic one
abbrev pub is_graphic : ℕ → ℕ → Bool
is_graphic first character = nat_le first character && nat_lt character 0o177

abbrev pub are_graphic : ℕ → List ℕ → Bool
are_graphic first [] = true
are_graphic first (character ∷ characters) = is_graphic first character && are_graphic first characters

-- what is shown has blanks and graphic characters alone
abbrev pub ShownIsGraphic : Type 0
ShownIsGraphic = (bytes : List ℕ) → are_graphic BLANK (shown_text bytes) ≡ true

-- what is shown in a column has graphic characters alone
abbrev pub QuotedIsGraphic : Type 0
QuotedIsGraphic = (bytes : List ℕ) → are_graphic (BLANK + 1) (with_quotes bytes) ≡ true

abbrev pub are_plain : List ℕ → Bool
are_plain [] = true
are_plain (byte ∷ bytes) = is_plain BLANK byte && are_plain bytes

-- such characters other than a backslash are shown as they are
abbrev pub PlainIsAsItIs : Type 0
PlainIsAsItIs = (bytes : List ℕ) → are_plain bytes ≡ true → shown_text bytes ≡ bytes

abbrev pub AreBytes : List ℕ → Type 0
AreBytes [] = Unit {0}
AreBytes (byte ∷ bytes) = (byte < 256) × AreBytes bytes

-- texts of bytes that are shown alike are the same
abbrev pub ReadsWhatItShows : Type 0
ReadsWhatItShows = (one other : List ℕ) → AreBytes one → AreBytes other → shown_text one ≡ shown_text other → one ≡ other

-- so are those that are shown alike in a column
abbrev pub ReadsWhatItQuotes : Type 0
ReadsWhatItQuotes = (one other : List ℕ) → AreBytes one → AreBytes other → with_quotes one ≡ with_quotes other → one ≡ other
