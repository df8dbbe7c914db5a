-- The statements of a text (PAL8, in this project's profile): what stands between two ends. A last stretch that nothing ends is no statement.
use Rattle.std.specs.Prelude.{ℕ, Bool, true, false, if◌then◌else◌, List, [], ◌∷◌}
use Rattle.pal8_lex.specs.Text.{line_after, live}
use Rattle.pal8_lex.specs.Rules.{end_of}
use Rattle.pal8_lex.specs.Pieces.{ends, open_of, pieces, string_of, tokens_of}
use Rattle.pal8_lex.specs.declared.tokens.Token.{Token}
use Rattle.pal8_lex.specs.declared.rules.End.{End}
use Rattle.pal8_lex.specs.declared.rules.Open.{Open}
use Rattle.pal8_lex.specs.declared.rules.Open.TheVariants as following

-- A statement: the line that it begins in, its tokens without the blanks that mean nothing, its string, whether an end cuts that, and its end.
pub record Statement : Type 0 where
  pub line : ℕ
  pub tokens : List Token
  pub string : List ℕ
  pub is_cut : Bool
  pub end : End

-- a string goes on
abbrev pub is_string : Open → Bool
is_string following.Start = false
is_string following.Blank = false
is_string (following.Run weight) = false
is_string following.Term = false
is_string following.Quote = false
is_string (following.String delimiter) = true
is_string following.Comment = false
is_string following.Title = false

-- the statement that a byte ends after these
abbrev pub statement_of : ℕ → List (ℕ × ℕ) → Statement
statement_of b older = record {
  line = line_after older;
  tokens = tokens_of (pieces older);
  string = string_of (pieces older);
  is_cut = is_string (open_of (pieces older));
  end = end_of b;
}

-- the statements of the bytes that are there, the newest first
abbrev pub statements_of : List (ℕ × ℕ) → List Statement
statements_of [] = []
statements_of (x ∷ older) = if ends (pieces older) x.0 then statement_of x.0 older ∷ statements_of older else statements_of older

-- the statements of a text, the newest first
abbrev pub statements : List ℕ → List Statement
statements text = statements_of (live text)
