-- How far a lexer is.
use Rattle.std.specs.Prelude.{ℕ, Bool}
use Rattle.pal_lex.specs.Drafting.{Cut}
use Rattle.pal_lex.specs.declared.lexing.State.{State}
use Rattle.pal_lex.specs.declared.runs.Radix.{Radix}

pub record Progress : Type 0 where
  pub state : State
  -- the number of the present source, as far as a number of 64 bits goes
  pub source : ℕ
  -- whether PAUSE ends the present source
  pub may_pause : Bool
  -- whether the next byte stands in a comment
  pub comment : Bool
  -- how many bytes of the present source came, as far as a number of 64 bits goes
  pub place : ℕ
  pub line : ℕ
  pub radix : Radix
  -- whether statements are handed out with their tokens
  pub keeps_tokens : Bool
  pub draft : Cut

-- what no byte changes
pub record Setting : Type 0 where
  pub keeps_tokens : Bool
  pub source : ℕ
  pub may_pause : Bool

abbrev pub setting : Progress → Setting
setting l = record { keeps_tokens = l.keeps_tokens; source = l.source; may_pause = l.may_pause }
