-- What the steps of a join give, for private clauses.
use Rattle.std.specs.Prelude.{◌≡◌, ℕ, Bool, true, false, ◌&&◌, if◌then◌else◌, length, take, Option, Some, None, Result, Ok, Err, List, [], ◌∷◌, ◌++◌}
use Rattle.pal_lex.specs.Text.{text_of}
use Rattle.pal8_lex.specs.Text.{as_read, live}
use Rattle.pal8_lex.specs.Rules.{end_of}
use Rattle.pal8_lex.specs.Reading as lex
use Rattle.pal8_lex.specs.Reading.{HasRead}
use Rattle.pal8_lex.specs.declared.rules.End.{End}
use Rattle.pal8_lex.specs.declared.rules.End.TheVariants as end
use Rattle.pal8_asm.specs.Sources.{PassResult, Statement, statements, with_next}
use Rattle.pal8_tape.specs.declared.pauses.Pause.{Pause}
use Rattle.pal8_tape.specs.Joins.{before_tokens, closing_bytes, empty_statement, first_pause, is_line_open, is_pause, is_read, remainder_after, part, pass_on, pauses, whole_lines}
use Rattle.pal8_tape.specs.Passing.{PassState, Follows}

abbrev pub is_dollar : End → Bool
is_dollar end.Semicolon = false
is_dollar end.Line = false
is_dollar end.Open = false
is_dollar end.Close = false
is_dollar end.Dollar = true

-- a statement is taken, or it is PAUSE
abbrev pub Meets : PassResult → Statement → Bool → PassState → Type 0
Meets left s paused new = ((is_pause s.tokens s.end && is_read left) ≡ paused) × Follows new (with_next (if paused then empty_statement s.end else s) left)

-- the same, with what ends PAUSE
abbrev pub MeetsStatement : PassResult → Statement → Option End → PassState → Type 0
MeetsStatement left s None new = Meets left s false new
MeetsStatement left s (Some end) new = Meets left s true new × (end ≡ s.end)

-- ## Bytes

-- what a byte after a text is: the end of PAUSE, or not
abbrev pub MeetsByte : PassResult → List ℕ → ℕ → Option End → lex.Progress → PassState → Type 0
MeetsByte left here b None lexer new = (pauses left here b ≡ false) × HasRead lexer (b ∷ here) × Follows new (pass_on left (statements (b ∷ here)))
MeetsByte left here b (Some end) lexer new =
    (pauses left here b ≡ true) × (end ≡ end_of (as_read b)) × Follows new (with_next (empty_statement end) (pass_on left (statements here)))

-- what is joined of a text, where it pauses there or not
abbrev pub part_with : List ℕ → Option Pause → List ℕ
part_with bytes None = whole_lines (text_of bytes)
part_with bytes (Some pause) = 0o12 ∷ closing_bytes pause.end ++ text_of (take pause.count bytes)

-- the same in its order
abbrev pub part_bytes : List ℕ → Option Pause → List ℕ
part_bytes bytes None = bytes ++ (if is_line_open (live (text_of bytes)) then 0o12 ∷ [] else [])
part_bytes bytes (Some pause) = take pause.count bytes ++ closing_bytes pause.end ++ 0o12 ∷ []

-- A text was passed up to its PAUSE, or whole.
abbrev pub Finds : PassResult → List ℕ → Option Pause → PassState → Type 0
Finds left bytes found new = (part left (text_of bytes) ≡ part_with bytes found) × Follows new (remainder_after left (text_of bytes))

-- These bytes of a text were passed, and it didn't pause. So many stand before the tokens of the statement that goes on.
pub record IsPassing (left : PassResult) (here before : List ℕ) (lexer : lex.Progress) (pass : PassState) : Type 0 where
  pub has_read : HasRead lexer here
  pub follows : Follows pass (pass_on left (statements here))
  pub goes_on : first_pause left here ≡ None
  pub is_before : before_tokens here ≡ before

-- The last line of a text was ended, and it paused there or not. So many bytes stood before the tokens of the statement that went on.
abbrev pub FindsAtEnd : PassResult → List ℕ → List ℕ → ℕ → Option Pause → PassState → Type 0
FindsAtEnd left bytes before count None new = (first_pause left (whole_lines (text_of bytes)) ≡ None) × Follows new (remainder_after left (text_of bytes))
FindsAtEnd left bytes before count (Some pause) new =
    (part left (text_of bytes) ≡ 0o12 ∷ closing_bytes pause.end ++ before) × (pause.count ≡ count) × Follows new (remainder_after left (text_of bytes))

-- A text was put after a join: up to its PAUSE, or whole where it is the last.
abbrev pub Puts : Bool → PassResult → List ℕ → List ℕ → List ℕ → List ℕ → List ℕ → PassState → Type 0
Puts true left bytes old new counts counts_then pass = (new ≡ old ++ bytes) × (counts_then ≡ counts)
Puts false left bytes old new counts counts_then pass =
    (text_of new ≡ part left (text_of bytes) ++ text_of old) × (counts_then ≡ counts ++ length (part left (text_of bytes)) ∷ []) × Follows pass (remainder_after left (text_of bytes))
