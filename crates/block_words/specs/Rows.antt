-- The lines that show words (this project's profile).
use Rattle.std.specs.Prelude.{ℕ, zero, suc, slice_range, ◌+◌, ◌*◌, ◌/◌, ◌%◌, nat_le, nat_lt, ◌&&◌, if◌then◌else◌, List, [], ◌∷◌, ◌++◌}
use Rattle.word12.specs.Octal.{octal4}
use Rattle.block_words.specs.declared.dumping.DumpForm.{DumpForm}
use Rattle.block_words.specs.declared.dumping.DumpForm.TheVariants.{Words, Sixbit, Text}

-- a number below 1000 in three places
abbrev pub number_text : ℕ → List ℕ
number_text n =
    (if nat_lt n 100 then 0o40 else 0o60 + n / 100 % 10) ∷ (if nat_lt n 10 then 0o40 else 0o60 + n / 10 % 10) ∷ (0o60 + n % 10) ∷ []

-- words in octal, each after a blank
abbrev pub octals : List ℕ → List ℕ
octals [] = []
octals (word ∷ words) = 0o40 ∷ octal4 word ++ octals words

-- the character of a code of six bits: letters and what follows them in ASCII up to 37, then blank, digits and the other signs
abbrev pub sixbit_character : ℕ → ℕ
sixbit_character code = if nat_lt code 0o40 then code + 0o100 else code

-- the two characters of each word (OS/8 Software Support Manual)
abbrev pub sixbit_text : List ℕ → List ℕ
sixbit_text [] = []
sixbit_text (word ∷ words) = sixbit_character (word / 0o100) ∷ sixbit_character (word % 0o100) ∷ sixbit_text words

-- a frame without its top bit, or a dot where that is no character that prints
abbrev pub visible_character : ℕ → ℕ
visible_character frame = if nat_le 0o40 (frame % 0o200) && nat_lt (frame % 0o200) 0o177 then frame % 0o200 else 0o56

-- the three characters of each two words, as frames are packed (OS/8 Software Support Manual)
abbrev pub character_text : List ℕ → List ℕ
character_text [] = []
character_text (first ∷ []) = []
character_text (first ∷ second ∷ words) =
    visible_character (first % 0o400) ∷ visible_character (second % 0o400) ∷ visible_character (16 * (first / 0o400) + second / 0o400) ∷ character_text words

-- what stands beside words
abbrev pub beside : DumpForm → List ℕ → List ℕ
beside Words words = []
beside Sixbit words = 0o40 ∷ 0o40 ∷ sixbit_text words
beside Text words = 0o40 ∷ 0o40 ∷ character_text words

-- the line of words, of which the first has this number
abbrev pub row : DumpForm → ℕ → List ℕ → List ℕ
row form number words = number_text number ++ 0o72 ∷ octals words ++ beside form words ++ 0o12 ∷ []

-- the words of a line, counted from 0
abbrev pub words_of_row : List ℕ → ℕ → List ℕ
words_of_row words k = slice_range words (8 * k) (8 * k + 8)

-- the first lines of words, so many of them, eight words a line
abbrev pub rows : DumpForm → List ℕ → ℕ → List ℕ
rows form words zero = []
rows form words (suc k) = rows form words k ++ row form (8 * k) (words_of_row words k)
