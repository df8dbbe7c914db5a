-- How the name of a file is shown (OS/8 Software Support Manual: two sixbit codes in a word).
use Rattle.std.specs.Prelude.{ℕ, zero, suc, ◌+◌, ◌/◌, ◌%◌, nat_lt, if◌then◌else◌, List, [], ◌∷◌, ◌++◌}
use Rattle.os8_dir.specs.Names.{words_of_name}

-- the character of a sixbit code: code 0 is none, codes 01 to 37 are letters and signs, the others stand for themselves
abbrev pub shown_code : ℕ → List ℕ
shown_code zero = []
shown_code (suc code) = (if nat_lt code 0o37 then code + 0o101 else code + 1) ∷ []

-- the characters of some words
abbrev pub shown_words : List ℕ → List ℕ
shown_words [] = []
shown_words (word ∷ words) = shown_code (word / 64) ++ shown_code (word % 64) ++ shown_words words

-- a dot and the characters of an extension; of 0 nothing
abbrev pub shown_extension : ℕ → List ℕ
shown_extension zero = []
shown_extension (suc word) = 0o56 ∷ shown_words (suc word ∷ [])

-- the characters of a name's four words
abbrev pub shown_name : List ℕ → List ℕ
shown_name (a ∷ b ∷ c ∷ extension ∷ []) = shown_words (a ∷ b ∷ c ∷ []) ++ shown_extension extension
shown_name words = []

-- the characters of a name
unfoldable pub name_text : ℕ → List ℕ
name_text name = shown_name (words_of_name name)
