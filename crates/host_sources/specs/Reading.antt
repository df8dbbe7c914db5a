-- The statements of a text, one byte at a time.
use Rattle.std.specs.Prelude.{◌≡◌, ℕ, true, false, Option, Some, None, Ok, List, ◌∷◌}
use Rattle.pal_lex.specs.Text.{ends_statement}
use Rattle.pal_lex.specs.Statements.{statements}
use Rattle.pal_lex.specs.Reading.{HasRead, with_tokens}
use Rattle.pal_lex.specs.Progress.{Progress}
use Rattle.pal_lex.specs.declared.phrases.Statement.{Statement}
use Rattle.pal_lex.specs.declared.pieces.Token.{Token}

-- A byte after a text was read, and this is the statement that it ends, if it ends one, whatever its tokens are.
abbrev pub IsEnded : List ℕ → ℕ → Option Statement → Progress → Type 0
IsEnded text b None lexer = (ends_statement text b ≡ false) × (statements (b ∷ text) ≡ statements text) × HasRead lexer 0 (b ∷ text)
IsEnded text b (Some s) lexer =
    (ends_statement text b ≡ true) × ((tokens : List Token) × (statements (b ∷ text) ≡ Ok (with_tokens tokens s) ∷ statements text))
    × HasRead lexer 0 (b ∷ text)
