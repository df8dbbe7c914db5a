-- What holds of the lines that show words.
use Rattle.std.specs.Prelude.{◌≡◌, ℕ, suc, ◌<◌, All, length, List, [], ◌∷◌}
use Rattle.word12.specs.Octal.{octal_number}
use Rattle.block_words.specs.Rows.{row}
use Rattle.block_words.specs.declared.dumping.DumpForm.{DumpForm}

-- the words that so many groups of a blank and four octal digits spell
abbrev pub words_spelled : ℕ → List ℕ → List ℕ
words_spelled (suc count) (blank ∷ a ∷ b ∷ c ∷ d ∷ text) = octal_number (a ∷ b ∷ c ∷ d ∷ []) ∷ words_spelled count text
words_spelled count text = []

-- the words of a line, which stand after its number and a colon
abbrev pub words_read : ℕ → List ℕ → List ℕ
words_read count (a ∷ b ∷ c ∷ colon ∷ text) = words_spelled count text
words_read count text = []

-- a line of words, read back, is these words, whatever stands beside them
abbrev pub ReadsWhatItShows : Type 0
ReadsWhatItShows =
    (form : DumpForm) (number : ℕ) (words : List ℕ) → All (λ word. word < 0o10000) words
    → words_read (length words) (row form number words) ≡ words
