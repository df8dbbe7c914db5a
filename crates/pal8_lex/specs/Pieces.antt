-- The pieces of a statement so far, which leave no byte of it out, and the tokens that they are (PAL8, in this project's profile). The newest
-- piece comes first.
use Rattle.std.specs.Prelude.{ℕ, ◌+◌, ◌%◌, Bool, true, false, ◌&&◌, if◌then◌else◌, Option, Some, None, List, [], ◌∷◌, ◌++◌}
use Rattle.pal_lex.specs.Text.{limit}
use Rattle.pal8_lex.specs.Kinds.{takes_blank_after, takes_blank_before, head_with}
use Rattle.pal8_lex.specs.Runs.{run_of, weight_after}
use Rattle.pal8_lex.specs.Rules.{ends_by, effect_of}
use Rattle.pal8_lex.specs.declared.tokens.Kind.{Kind}
use Rattle.pal8_lex.specs.declared.tokens.Kind.TheVariants as kind
use Rattle.pal8_lex.specs.declared.tokens.Token.{Token}
use Rattle.pal8_lex.specs.declared.rules.Open.{Open}
use Rattle.pal8_lex.specs.declared.rules.Open.TheVariants as following
use Rattle.pal8_lex.specs.declared.rules.Head.{Head}
use Rattle.pal8_lex.specs.declared.rules.Head.TheVariants as heads
use Rattle.pal8_lex.specs.declared.rules.Shape.{Shape}
use Rattle.pal8_lex.specs.declared.rules.Shape.TheVariants as shape
use Rattle.pal8_lex.specs.declared.rules.Effect.{Effect}
use Rattle.pal8_lex.specs.declared.rules.Effect.TheVariants as effect

-- Bytes with their places: the first one, and those after it, the newest first. A blank, a comment and a title have a piece for each byte.
pub record Piece : Type 0 where
  pub shape : Shape
  pub first : ℕ × ℕ
  pub others : List (ℕ × ℕ)

-- what the pieces are, if they are tokens
abbrev pub kind_by : Shape → ℕ → List (ℕ × ℕ) → Option Kind
kind_by shape.Run first others = Some (run_of first others)
kind_by shape.Blank first others = None
kind_by (shape.Mark k) first others = Some k
kind_by shape.Quote first others = Some kind.Bad
kind_by shape.OpenString first others = Some kind.String
kind_by shape.ClosedString first others = Some kind.String
kind_by shape.Comment first others = None
kind_by shape.Title first others = None

abbrev pub kind_of : Piece → Option Kind
kind_of p = kind_by p.shape p.first.0 p.others

-- a blank before a piece means something, as far as the piece decides it
abbrev pub takes_blank : Shape → Bool
takes_blank shape.Run = true
takes_blank shape.Blank = false
takes_blank (shape.Mark k) = takes_blank_before k
takes_blank shape.Quote = true
takes_blank shape.OpenString = true
takes_blank shape.ClosedString = true
takes_blank shape.Comment = false
takes_blank shape.Title = false

-- A blank means something after what takes one, and after such a blank.
abbrev pub after_blank : Open → Open
after_blank following.Start = following.Start
after_blank following.Blank = following.Blank
after_blank (following.Run weight) = following.Blank
after_blank following.Term = following.Blank
after_blank following.Quote = following.Blank
after_blank (following.String delimiter) = following.Blank
after_blank following.Comment = following.Blank
after_blank following.Title = following.Blank

abbrev pub open_by : Shape → ℕ → List (ℕ × ℕ) → Open → Open
open_by shape.Run first others before = following.Run (weight_after others)
open_by shape.Blank first others before = after_blank before
open_by (shape.Mark k) first others before = if takes_blank_after k then following.Term else following.Start
open_by shape.Quote first others before = following.Quote
open_by shape.OpenString first others before = following.String first
open_by shape.ClosedString first others before = following.Term
open_by shape.Comment first others before = following.Comment
open_by shape.Title first others before = following.Title

-- what the next byte stands after
abbrev pub open_of : List Piece → Open
open_of [] = following.Start
open_of (p ∷ older) = open_by p.shape p.first.0 p.others (open_of older)

abbrev pub head_by : Option Kind → Head → Head
head_by None before = before
head_by (Some k) before = head_with k before

-- what stands after the tags
abbrev pub head_of : List Piece → Head
head_of [] = heads.Empty
head_of (p ∷ older) = head_by (kind_of p) (head_of older)

abbrev pub is_blank : Open → Bool
is_blank following.Start = false
is_blank following.Blank = true
is_blank (following.Run weight) = false
is_blank following.Term = false
is_blank following.Quote = false
is_blank (following.String delimiter) = false
is_blank following.Comment = false
is_blank following.Title = false

-- the place after a first byte and these
abbrev pub end_after : ℕ → List (ℕ × ℕ) → ℕ
end_after first [] = first + 1
end_after first (x ∷ older) = x.1 + 1

abbrev pub with_token : Option Kind → Bool → ℕ → ℕ → List Token → List Token
with_token None is_spaced start end before = before
with_token (Some k) is_spaced start end before = before ++ record { kind = k; is_spaced = is_spaced; start = limit start; end = limit end } ∷ []

-- the tokens of pieces, in the order of the text
abbrev pub tokens_of : List Piece → List Token
tokens_of [] = []
tokens_of (p ∷ older) =
    with_token (kind_of p) (is_blank (open_of older) && takes_blank p.shape) p.first.1 (end_after p.first.1 p.others) (tokens_of older)

-- bytes of a string in their order, each modulo 0o200
abbrev pub spelt : List (ℕ × ℕ) → List ℕ
spelt [] = []
spelt (x ∷ older) = spelt older ++ x.0 % 0o200 ∷ []

-- a string without its last delimiter
abbrev pub but_last : List (ℕ × ℕ) → List (ℕ × ℕ)
but_last [] = []
but_last (x ∷ older) = older

abbrev pub string_by : Shape → List (ℕ × ℕ) → List ℕ → List ℕ
string_by shape.Run others before = before
string_by shape.Blank others before = before
string_by (shape.Mark k) others before = before
string_by shape.Quote others before = before
string_by shape.OpenString others before = spelt others
string_by shape.ClosedString others before = spelt (but_last others)
string_by shape.Comment others before = before
string_by shape.Title others before = before

-- the string of a statement, or nothing
abbrev pub string_of : List Piece → List ℕ
string_of [] = []
string_of (p ∷ older) = string_by p.shape p.others (string_of older)

-- a byte ends the statement that has these pieces
abbrev pub ends : List Piece → ℕ → Bool
ends before b = ends_by (open_of before) (head_of before) b

-- the newest piece with one byte more, in this shape
abbrev pub grown : Shape → ℕ × ℕ → Piece → Piece
grown shape x p = record { shape = shape; first = p.first; others = x ∷ p.others }

-- one byte more, by what it does
abbrev pub with_effect : Effect → ℕ × ℕ → List Piece → List Piece
with_effect (effect.Begins shape) x before = record { shape = shape; first = x; others = [] } ∷ before
with_effect effect.Lengthens x [] = []
with_effect effect.Lengthens x (p ∷ older) = grown p.shape x p ∷ older
with_effect effect.GoesOn x [] = []
with_effect effect.GoesOn x (p ∷ older) = grown p.shape x p ∷ older
with_effect effect.Closes x [] = []
with_effect effect.Closes x (p ∷ older) = grown shape.ClosedString x p ∷ older
with_effect (effect.Completes c) x [] = []
with_effect (effect.Completes c) x (p ∷ older) = grown (shape.Mark (kind.Character c)) x p ∷ older

abbrev pub with_byte : ℕ × ℕ → List Piece → List Piece
with_byte x before = with_effect (effect_of (open_of before) (head_of before) x.0) x before

-- the pieces of the statement that goes on after these bytes
abbrev pub pieces : List (ℕ × ℕ) → List Piece
pieces [] = []
pieces (x ∷ older) = if ends (pieces older) x.0 then [] else with_byte x (pieces older)
