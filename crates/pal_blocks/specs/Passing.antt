-- The text of blocks, and a pass after the end of its source.
use Rattle.std.specs.Prelude.{◌≡◌, ℕ, Bool, true, if◌then◌else◌, None, List, []}
use Rattle.char_pack.specs.Packing.{frames}
use Rattle.char_pack.specs.Texts.{characters, is_ended}
use Rattle.pal_lex.specs.Text.{text_of, is_over}
use Rattle.pal_lex.specs.Statements.{statements, first_fault}
use Rattle.pal_lex.specs.Reading.{HasRead}
use Rattle.pal_lex.specs.Progress as lex
use Rattle.pal_asm.specs.Places.{Source}

-- the text of frames, its newest byte first
abbrev pub text_in : List ℕ → List ℕ
text_in given = text_of (characters given)

-- the characters that a block adds after frames of the same source
abbrev pub characters_added : List ℕ → List ℕ → List ℕ
characters_added given block = if is_ended given then [] else characters (frames block)

-- A `$` has ended this text, which is all of the source, and nothing after it is read.
pub record IsOver (lexer : lex.Progress) (ended : Bool) (text : List ℕ) (Fits : Source → Type 0) : Type 0 where
  pub no_more : ended ≡ true
  pub seam : ℕ
  pub read : HasRead lexer seam text
  pub over : is_over text ≡ true
  pub fine : first_fault (statements text) ≡ None
  pub at : Fits (statements text)
