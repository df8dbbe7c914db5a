-- What several files say as one source, and the file that it is assembled to.
use Rattle.std.specs.Prelude.{◌≡◌, ℕ, Option, List, [], ◌∷◌}
use Rattle.char_pack.specs.Packing.{frames, packed_blocks}
use Rattle.char_pack.specs.Texts.{text}
use Rattle.bin_tape.specs.Items.{Item, tape_map}
use Rattle.bin_tape.specs.Tape.{IsTape}
use Rattle.bin_tape.specs.Writing.{tape_of}
use Rattle.bin_tape.specs.Pairs.{last_word}
use Rattle.pal_lex.specs.Text.{text_of}
use Rattle.pal_lex.specs.Joins.{join_of}
use Rattle.pal_asm.specs.Words.{pairs_of}

-- the texts of files, each with its newest byte first
abbrev pub texts_of : List (List ℕ) → List (List ℕ)
texts_of [] = []
texts_of (words ∷ others) = text_of (text words) ∷ texts_of others

-- the source that the texts of files join to, with its newest byte first
abbrev pub newest_first : List (List ℕ) → List ℕ
newest_first sources = join_of (texts_of sources)

-- the words of the file that sources are assembled to: the fewest blocks that hold their tape
abbrev pub assembled_words : List (List ℕ) → List ℕ
assembled_words sources = packed_blocks (tape_of (pairs_of (newest_first sources)))

-- what sources put into a cell: the word of the last pair there
abbrev pub meaning_of : List (List ℕ) → ℕ → Option ℕ
meaning_of sources cell = last_word (pairs_of (newest_first sources)) cell

-- the words are a tape that gives each cell what the sources put into it
pub record IsTapeOfSources (sources : List (List ℕ)) (words : List ℕ) : Type 0 where
  pub items : List Item
  pub is_tape : IsTape (frames words) items
  pub map : (cell : ℕ) → tape_map items cell ≡ meaning_of sources cell
