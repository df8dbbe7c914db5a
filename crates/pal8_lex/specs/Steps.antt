-- What the small steps of the lexer give, for private clauses.
use Rattle.std.specs.Prelude.{ℕ, ◌≡◌, Bool, true, false, Ok, List, ◌∷◌}
use Rattle.pal8_lex.specs.Kinds.{head_of_one}
use Rattle.pal8_lex.specs.Pieces.{Piece}
use Rattle.pal8_lex.specs.Reading.{Answers, HasRead, Progress}
use Rattle.pal8_lex.specs.declared.tokens.Kind.{Kind}
use Rattle.pal8_lex.specs.declared.rules.Head.{Head}
use Rattle.pal8_lex.specs.declared.rules.Head.TheVariants.{Empty, One, Text, Listing, More}
use Rattle.pal8_lex.specs.declared.rules.Open.{Open}
use Rattle.pal8_lex.specs.declared.rules.Open.TheVariants as following
use Rattle.pal8_lex.specs.declared.rules.Shape.{Shape}
use Rattle.pal8_lex.specs.declared.rules.Shape.TheVariants as shape
use Rattle.pal8_lex.specs.declared.rules.Effect.{Effect}
use Rattle.pal8_lex.specs.declared.rules.Effect.TheVariants as effect

-- the newest token, which is no comma, is another one now
abbrev pub head_again : Kind → Head → Head
head_again kind Empty = Empty
head_again kind One = head_of_one kind
head_again kind Text = head_of_one kind
head_again kind Listing = head_of_one kind
head_again kind More = More

-- a piece of this shape is a string
abbrev pub has_string : Shape → Bool
has_string shape.Run = false
has_string shape.Blank = false
has_string (shape.Mark k) = false
has_string shape.Quote = false
has_string shape.OpenString = true
has_string shape.ClosedString = true
has_string shape.Comment = false
has_string shape.Title = false

-- The newest of pieces has this shape.
pub record IsNewest (shape : Shape) (before : List Piece) : Type 0 where
  pub newest : Piece
  pub older : List Piece
  pub are : before ≡ newest ∷ older
  pub is_shape : newest.shape ≡ shape

-- A byte can have this effect on these pieces.
abbrev pub Fits : Effect → List Piece → Type 0
Fits (effect.Begins s) before = Unit {0}
Fits effect.Lengthens before = IsNewest shape.Run before
Fits effect.GoesOn before = IsNewest shape.OpenString before
Fits effect.Closes before = IsNewest shape.OpenString before
Fits (effect.Completes c) before = IsNewest shape.Quote before

-- a name or a number may go on
abbrev pub is_run : Open → Bool
is_run following.Start = false
is_run following.Blank = false
is_run (following.Run weight) = true
is_run following.Term = false
is_run following.Quote = false
is_run (following.String delimiter) = false
is_run following.Comment = false
is_run following.Title = false

-- A byte goes on with a name, a number or a comment, and ends no statement; or it is left.
abbrev pub GoesFurther : ℕ → Bool → Progress → Progress → Type 0
GoesFurther b true old new = (text : List ℕ) → HasRead old text → Answers text b (Ok false) new
GoesFurther b false old new = new ≡ old
