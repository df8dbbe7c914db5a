-- What is kept of a statement that isn't ended yet.
use Rattle.std.specs.Prelude.{ℕ, List}
use Rattle.pal8_lex.specs.Pieces.{Piece, head_of, open_of, string_of, tokens_of}
use Rattle.pal8_lex.specs.declared.tokens.Token.{Token}
use Rattle.pal8_lex.specs.declared.rules.Head.{Head}
use Rattle.pal8_lex.specs.declared.rules.Open.{Open}

pub record Present : Type 0 where
  pub tokens : List Token
  pub string : List ℕ
  pub state : Open
  pub head : Head

-- what is kept of these pieces
abbrev pub present_of : List Piece → Present
present_of before = record { tokens = tokens_of before; string = string_of before; state = open_of before; head = head_of before }
