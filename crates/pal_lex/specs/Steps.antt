-- What the small steps of the lexer give, for private clauses.
use Rattle.std.specs.Prelude.{ℕ, ◌+◌, List, [], ◌∷◌, ◌≡◌, ◌≤◌, Bool, true, Option, Some, None, take, length, false, nat_eq, ◌||◌}
use Rattle.pal_lex.specs.Cutting.{Piece, with_character, are_coded}
use Rattle.pal_lex.specs.Text.{limit}
use Rattle.pal_lex.specs.Runs.{base}
use Rattle.pal_lex.specs.declared.pieces.Token.{Token}
use Rattle.pal_lex.specs.declared.pieces.Kind.TheVariants.{Blank}
use Rattle.pal_lex.specs.declared.drafts.Tail.{Tail}
use Rattle.pal_lex.specs.Drafting.{Cut, cut_of}
use Rattle.pal_lex.specs.Statements.{statements}
use Rattle.pal_lex.specs.Progress.{Progress}
use Rattle.pal_lex.specs.Reading.{HasRead}
use Rattle.pal_lex.specs.declared.drafts.Tail.TheVariants as tail

-- ## Cutting

-- letters and digits more, from this place on
abbrev pub with_characters : List ℕ → ℕ → List Piece → List Piece
with_characters [] place before = before
with_characters (b ∷ bytes) place before = with_characters bytes (place + 1) (with_character b place before)

-- ## Drafting

-- a blank that counts once a token follows
abbrev pub pending : Tail → List Token
pending tail.Sign = []
pending tail.Dot = []
pending (tail.Blank place) = record { kind = Blank; start = place; end = limit (place + 1) } ∷ []
pending (tail.Run weight) = []

-- A letter or a digit and so many of the bytes after it, letters and digits too, were put after pieces, or nothing was.
abbrev pub PutsRun : ℕ → Bool → List Piece → ℕ → List ℕ → ℕ → Option ℕ → Cut → Cut → Type 0
PutsRun base illegal before first others at None old new = new ≡ old
PutsRun base illegal before first others at (Some more) old new =
    (more ≤ length others) × (are_coded (take more others) ≡ true) × (new ≡ cut_of base illegal (with_characters (first ∷ take more others) at before))

-- ## Reading

-- A byte after a text that ends no statement was taken, or nothing was.
abbrev pub TakesByte : ℕ → List ℕ → ℕ → Bool → Progress → Progress → Type 0
TakesByte seam text b true old new = (statements (b ∷ text) ≡ statements text) × HasRead new seam (b ∷ text)
TakesByte seam text b false old new = new ≡ old

-- ## Text

-- a CR stands among bytes
abbrev pub has_cr : List ℕ → Bool
has_cr [] = false
has_cr (b ∷ bytes) = nat_eq b 0o15 || has_cr bytes
