-- Laws about the statements of a text, which hold whatever reads it.
use Rattle.std.specs.Prelude.{◌≡◌, ℕ, Bool, true, false, if◌then◌else◌, List, [], ◌∷◌, ◌++◌}
use Rattle.pal8_lex.specs.Text.{live}
use Rattle.pal8_lex.specs.Pieces.{Piece, ends, head_of, open_of, pieces, string_of, takes_blank, tokens_of}
use Rattle.pal8_lex.specs.Statements.{Statement, statement_of, statements}
use Rattle.pal8_lex.specs.declared.rules.Open.TheVariants as following
use Rattle.pal8_lex.specs.declared.rules.Shape.TheVariants as shape

-- The statements of a text stay whatever follows it.
abbrev pub StatementsStay : Type 0
StatementsStay = (text later : List ℕ) → (more : List Statement) × (statements (later ++ text) ≡ more ++ statements text)

-- The end of a line ends a statement, whatever it stands after: no statement, comment or string goes on in the next line.
abbrev pub LinesEnd : Type 0
LinesEnd = (text : List ℕ) → statements (0o12 ∷ text) ≡ statement_of 0o15 (live text) ∷ statements text

-- After the end of a statement the next one is a function of its own bytes: what stood before makes no difference.
abbrev pub StatementsBeginAnew : Type 0
StatementsBeginAnew =
    (later before : List (ℕ × ℕ)) (x : ℕ × ℕ) → ends (pieces before) x.0 ≡ true → pieces (later ++ x ∷ before) ≡ pieces later

-- the bytes of pieces, the newest first
abbrev pub bytes_of : List Piece → List (ℕ × ℕ)
bytes_of [] = []
bytes_of (p ∷ older) = p.others ++ p.first ∷ bytes_of older

-- the bytes after the last one that ends a statement
abbrev pub stretch : List (ℕ × ℕ) → List (ℕ × ℕ)
stretch [] = []
stretch (x ∷ older) = if ends (pieces older) x.0 then [] else x ∷ stretch older

-- The pieces of a statement, its blanks and comments with them, are its bytes: none is left out, and none is changed.
abbrev pub PiecesAreWhole : Type 0
PiecesAreWhole = (bytes : List (ℕ × ℕ)) → bytes_of (pieces bytes) ≡ stretch bytes

-- Pieces say the same: they have the same tokens and the same string, and the next byte does the same after them.
pub record SaySame (these those : List Piece) : Type 0 where
  pub tokens : tokens_of these ≡ tokens_of those
  pub string : string_of these ≡ string_of those
  pub state : open_of these ≡ open_of those
  pub head : head_of these ≡ head_of those

-- A blank at the beginning of a statement, after a sign, after an opening, or after such a blank means nothing.
abbrev pub BlanksAfterMeanNothing : Type 0
BlanksAfterMeanNothing =
    (later before : List Piece) (blank : Piece) → blank.shape ≡ shape.Blank → open_of before ≡ following.Start
    → SaySame (later ++ blank ∷ before) (later ++ before)

-- A blank after a blank means nothing.
abbrev pub BlanksAreOne : Type 0
BlanksAreOne =
    (later before : List Piece) (blank next : Piece) → blank.shape ≡ shape.Blank → next.shape ≡ shape.Blank
    → SaySame (later ++ next ∷ blank ∷ before) (later ++ blank ∷ before)

-- A blank before a sign, a closing or a comment means nothing.
abbrev pub BlanksBeforeMeanNothing : Type 0
BlanksBeforeMeanNothing =
    (later before : List Piece) (blank next : Piece) → blank.shape ≡ shape.Blank → takes_blank next.shape ≡ false
    → SaySame (later ++ next ∷ blank ∷ before) (later ++ next ∷ before)
