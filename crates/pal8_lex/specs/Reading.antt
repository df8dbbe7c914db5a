-- What a lexer was given, and what it answers.
use Rattle.std.specs.Prelude.{◌≡◌, ℕ, ◌+◌, Bool, true, false, length, Option, Some, None, Result, Ok, Err, List, [], ◌∷◌}
use Rattle.std.specs.declared.alloc.AllocError.{AllocError}
use Rattle.pal_lex.specs.Text.{limit}
use Rattle.pal8_lex.specs.Text.{as_read, is_dropped, line_after, live}
use Rattle.pal8_lex.specs.Rules.{effect_of}
use Rattle.pal8_lex.specs.Pieces.{ends, head_of, open_of, pieces}
use Rattle.pal8_lex.specs.Drafting.{Present, present_of}
use Rattle.pal8_lex.specs.Statements.{Statement, is_string, statement_of, statements}
use Rattle.pal8_lex.specs.declared.rules.End.{End}
use Rattle.pal8_lex.specs.declared.rules.End.TheVariants as end
use Rattle.pal8_lex.specs.declared.rules.Shape.{Shape}
use Rattle.pal8_lex.specs.declared.rules.Shape.TheVariants as shape
use Rattle.pal8_lex.specs.declared.rules.Effect.{Effect}
use Rattle.pal8_lex.specs.declared.rules.Effect.TheVariants as effect

-- How far a lexer is.
pub record Progress : Type 0 where
  -- how many bytes came, as far as a number of 64 bits goes
  pub place : ℕ
  -- the line of the newest statement
  pub line : ℕ
  -- what ended it, if it is ended
  pub end : Option End
  pub draft : Present

-- the line after an end
abbrev pub next_line : End → ℕ → ℕ
next_line end.Semicolon line = line
next_line end.Line line = limit (line + 1)
next_line end.Open line = line
next_line end.Close line = line
next_line end.Dollar line = line

abbrev pub anew_by : Option End → Progress → Progress
anew_by None l = l
anew_by (Some e) l = record { place = l.place; line = next_line e l.line; end = None; draft = present_of [] }

-- where the newest statement is ended, the next one begins
abbrev pub anew : Progress → Progress
anew l = anew_by l.end l

-- how a lexer stands after a text, where a statement goes on or begins
abbrev pub after_text : List ℕ → Progress
after_text text = record { place = limit (length text); line = line_after (live text); end = None; draft = present_of (pieces (live text)) }

-- The lexer was given this text.
unfoldable pub HasRead : Progress → List ℕ → Type 0
HasRead l text = anew l ≡ after_text text

abbrev pub statement_at_end : Option End → Progress → Option Statement
statement_at_end None l = None
statement_at_end (Some e) l = Some record { line = l.line; tokens = l.draft.tokens; string = l.draft.string; is_cut = is_string l.draft.state; end = e }

-- the statement that a lexer shows, if the newest one is ended
abbrev pub last_statement : Progress → Option Statement
last_statement l = statement_at_end l.end l

abbrev pub takes_room_by : Shape → Bool
takes_room_by shape.Run = true
takes_room_by shape.Blank = false
takes_room_by (shape.Mark k) = true
takes_room_by shape.Quote = true
takes_room_by shape.OpenString = true
takes_room_by shape.ClosedString = true
takes_room_by shape.Comment = false
takes_room_by shape.Title = false

-- what has this effect is a token more, or a byte of a string
abbrev pub takes_room : Effect → Bool
takes_room (effect.Begins s) = takes_room_by s
takes_room effect.Lengthens = false
takes_room effect.GoesOn = true
takes_room effect.Closes = false
takes_room (effect.Completes c) = false

-- The answer for a byte after a text: whether it ends a statement, which the lexer then shows. Where memory ran out the byte was not taken.
abbrev pub Answers : List ℕ → ℕ → Result Bool AllocError → Progress → Type 0
Answers text b (Ok true) new =
    (last_statement new ≡ Some (statement_of (as_read b) (live text))) × (statements (b ∷ text) ≡ statement_of (as_read b) (live text) ∷ statements text)
    × HasRead new (b ∷ text)
Answers text b (Ok false) new = (statements (b ∷ text) ≡ statements text) × HasRead new (b ∷ text)
Answers text b (Err refused) new =
    (is_dropped b ≡ false) × (ends (pieces (live text)) (as_read b) ≡ false)
    × (takes_room (effect_of (open_of (pieces (live text))) (head_of (pieces (live text))) (as_read b)) ≡ true) × HasRead new text
