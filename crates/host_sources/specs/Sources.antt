-- The sources of the host as one text (PAL III Symbolic Assembler manual, and this project's profile of it).
use Rattle.std.specs.Prelude.{ℕ, Option, Some, None, length, List, [], ◌∷◌}
use Rattle.std.specs.Borrow.{Bor}
use Rattle.char_pack.specs.Texts.{host_text}
use Rattle.pal_lex.specs.Text.{text_of}
use Rattle.pal_lex.specs.Joins.{before_pause, join_of}

-- the texts of sources, each as a file keeps it, with its newest byte first
abbrev pub texts_of : List (Bor (List ℕ)) → List (List ℕ)
texts_of [] = []
texts_of (source ∷ others) = text_of (host_text source.now) ∷ texts_of others

-- the text that sources join to, with its newest byte first
abbrev pub newest_first : List (Bor (List ℕ)) → List ℕ
newest_first sources = join_of (texts_of sources)

-- ## How much of each source is in the join

-- a source that pauses has as many bytes in the join as stand before its PAUSE, and others follow it
abbrev pub counts_by : Option (List ℕ) → List ℕ → List ℕ
counts_by None later = []
counts_by (Some prefix) later = length prefix ∷ later

-- how many bytes each of these texts that another follows has in their join
abbrev pub counts_of : List (List ℕ) → List ℕ
counts_of [] = []
counts_of (text ∷ []) = []
counts_of (text ∷ next ∷ others) = counts_by (before_pause text) (counts_of (next ∷ others))
